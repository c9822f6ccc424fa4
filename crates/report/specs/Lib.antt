-- 01's rules for a report, in its order: its refusals, and its beams; and all reports in range.
pub mod Rules
pub mod Beams
pub mod Listed
