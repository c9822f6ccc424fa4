-- What a log is and how it is read; what the contracts cite of that; how it is written; and what can be said of every log.
pub mod Log
pub mod Answer
pub mod Writing
pub mod Relied
