-- What the contracts and the laws cite, in the order in which it builds up.
pub mod Table
pub mod Products
pub mod Nearest
