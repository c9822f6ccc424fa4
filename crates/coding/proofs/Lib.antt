-- Laws of a number and of a report as they are written; then theorems.
pub mod Putting
pub mod Lengths
pub mod Numbered
pub mod Placed
pub mod Unique
