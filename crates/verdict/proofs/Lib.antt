-- What a report in range says, what reports ask of the masks, and what is given.
pub mod Given
pub mod Asked
pub mod Unique
