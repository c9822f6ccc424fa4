-- Laws of the multi-panel codebook, the demands, and the worked reports.
pub mod Parts
pub mod Known
pub mod InRange
pub mod Rows
pub mod Columns
pub mod Sound
pub mod Lawful
pub mod Said
pub mod Unique
pub mod Demands
pub mod Worked
