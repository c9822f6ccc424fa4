-- Why the cases of a `match` over all phases leave no other, and why halves of a number are read as they were written.
pub mod Unique
pub mod Cases
pub mod Halves
