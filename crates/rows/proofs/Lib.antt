-- A law of columns, and the theorems on what is public.
pub mod Blanks
pub mod Unique
