-- Laws of a report: its refusals, how far its beams stand from B, and where they lie; and of the list of all in range.
pub mod InRange
pub mod Judged
pub mod Listed
pub mod Base
pub mod Steps
pub mod Moves
pub mod Reached
pub mod Unique
pub mod Examples
