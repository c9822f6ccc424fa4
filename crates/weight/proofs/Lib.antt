-- The laws of the table; `CrossSum`, `Powers` and the last part of `Rules` are what other crates come for.
pub mod Pairs
pub mod Integers
pub mod Rules
pub mod Nearest
pub mod Products
pub mod CrossSum
pub mod Examples
