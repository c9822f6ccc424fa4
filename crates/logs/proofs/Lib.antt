-- Laws of reports and answers, of what a step tells, of a whole log, and of what is written; then theorems.
pub mod Taking
pub mod Answers
pub mod Counted
pub mod Told
pub mod Parts
pub mod Readback
pub mod Several
pub mod Rewritten
pub mod Unique
pub mod Reading
pub mod Examples
