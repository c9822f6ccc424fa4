-- What the contracts of the private functions cite. What `matrix` promises is in plan's specs.
pub mod Blocks
