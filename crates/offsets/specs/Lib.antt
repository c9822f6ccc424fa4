-- What the contracts and the laws cite.
pub mod Offsets
