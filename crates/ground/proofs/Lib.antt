-- Laws that know nothing of radio.
pub mod Booleans
pub mod Tests
pub mod Lists
pub mod Members
pub mod Sums
pub mod All
pub mod First
pub mod Written
pub mod Adds
pub mod Writes
pub mod Unique
pub mod Examples
