-- 01's settings and ranges, in its order, what is said of a report, and how many are in range.
pub mod Settings
pub mod Ranges
pub mod Outcome
pub mod Counts
