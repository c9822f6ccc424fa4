-- 01's precoders, in its order, and the single-panel codebook.
pub mod Columns
pub mod Plan
pub mod Masks
pub mod Single
pub mod Before
pub mod Drawing
