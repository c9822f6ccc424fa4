-- Laws of the single-panel codebook.
pub mod Layers
pub mod Neighbours
pub mod Apart
pub mod Told
pub mod Sound
pub mod Lawful
pub mod InPlace
pub mod Drawn
pub mod Unique
