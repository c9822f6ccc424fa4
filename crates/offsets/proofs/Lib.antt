-- What offsets do to columns, which lists are refused, and how a list is read.
pub mod Fed
pub mod Fit
pub mod Places
pub mod Unique
