-- The laws, from the ground up; `Orthogonal` and `Cancel` are what other crates come for.
pub mod Unique
pub mod Lists
pub mod Columns
pub mod Steps
pub mod Entries
pub mod Invariant
pub mod Zero
pub mod Differences
pub mod Beams
pub mod Orthogonal
pub mod Multiples
pub mod Cancel
pub mod NotZero
pub mod Example
