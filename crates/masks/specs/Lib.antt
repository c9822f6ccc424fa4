-- What the contract of `admit` cites, and what a codebook hands over to it.
pub mod Admitted
pub mod Asks
