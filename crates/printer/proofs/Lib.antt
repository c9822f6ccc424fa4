-- Laws that the proofs share, then theorems.
pub mod Answered
pub mod Texts
pub mod Example
pub mod Longest
pub mod Unique
