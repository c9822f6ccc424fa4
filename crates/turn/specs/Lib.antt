-- What the contracts and the laws cite, in the order in which it builds up.
pub mod Phase
pub mod Column
pub mod Exact
pub mod Cancel
pub mod Apart
