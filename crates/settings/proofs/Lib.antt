-- What is known of every setting and of the ranges.
pub mod Known
pub mod Ranked
pub mod Steps
pub mod Members
pub mod ByRank
pub mod Counts
pub mod Unique
