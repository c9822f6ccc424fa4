-- What the contracts cite.
pub mod Prints
