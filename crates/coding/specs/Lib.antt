-- What the contract cites.
pub mod Coding
