-- Theorems about what C calls.
pub mod Unique
