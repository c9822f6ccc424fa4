-- Laws of a number: byte by byte, by its code, and where it breaks off; then theorems.
pub mod Bytes
pub mod Coded
pub mod Faults
pub mod Unique
