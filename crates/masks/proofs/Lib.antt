-- The bits of beams, what is given, and what it is to any codebook.
pub mod Bits
pub mod Given
pub mod Refused
pub mod Unique
