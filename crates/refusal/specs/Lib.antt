-- What contracts of refusals cite.
pub mod Outcome
