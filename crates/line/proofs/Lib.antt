-- Laws that the proofs share, then theorems.
pub mod Leading
pub mod Scanned
pub mod NextWord
pub mod Forms
pub mod Readback
pub mod Unique
