-- The multi-panel codebook of 5.2.2.2.2, and what a report's own numbers say.
pub mod Panels
pub mod Own
