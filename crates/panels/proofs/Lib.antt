-- What a report hands over to the masks and to the writer, and why that is its own.
pub mod Asked
pub mod Codes
pub mod Drawn
pub mod Judged
pub mod Unique
