-- Laws that the proofs share, then theorems.
pub mod Begun
pub mod Listed
pub mod LineBegun
pub mod FaultBegun
pub mod Unique
