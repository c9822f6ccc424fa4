-- Laws that the proofs share.
pub mod Written
pub mod Weighed
pub mod Planned
pub mod Judged
pub mod Unique
