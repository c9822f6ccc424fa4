-- A law of eight numbers, and of numbers as reports; and the theorems on what is public.
pub mod Numbers
pub mod Eights
pub mod Unique
