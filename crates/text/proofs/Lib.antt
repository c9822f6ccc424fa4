-- Laws that the proofs share, then theorems.
pub mod Digits
pub mod Words
pub mod Lines
pub mod Records
pub mod Unique
