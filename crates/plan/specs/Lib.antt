-- What the contracts and the laws cite, in the order in which it builds up.
pub mod Plan
pub mod Sound
pub mod Offsets
pub mod Base
pub mod Masks
pub mod Answer
pub mod Lawful
pub mod Demands
pub mod Drawing
