-- What the contracts and the laws of every crate cite, and what knows nothing of radio.
pub mod Cases
pub mod Lists
pub mod First
pub mod Unique
pub mod Copied
pub mod Lent
