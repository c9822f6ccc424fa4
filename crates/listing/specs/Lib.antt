-- What the contracts cite.
pub mod Listing
