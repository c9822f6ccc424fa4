-- The laws, from the ground up; `Demands` is what codebooks come for.
pub mod Unique
pub mod Layers
pub mod Told
pub mod Drawn
pub mod Matrix
pub mod Base
pub mod FedMatrix
pub mod Answers
pub mod Passed
pub mod Calls
pub mod Zeros
pub mod Demands
pub mod Masked
pub mod Longer
pub mod Worked
