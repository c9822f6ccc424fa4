-- The demands, the worked reports, what has changed, and that every call has one outcome.
pub mod Unique
pub mod Demands
pub mod Worked
pub mod Frauds
pub mod Changed
