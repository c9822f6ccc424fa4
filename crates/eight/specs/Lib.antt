-- A report as eight numbers.
pub mod Numbers
