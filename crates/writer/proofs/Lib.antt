-- Laws that the proofs share; `Drawn` has what other crates come for.
pub mod Columns
pub mod Rows
pub mod Drawn
pub mod Offsets
pub mod Room
pub mod Laid
pub mod Unique
