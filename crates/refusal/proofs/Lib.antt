-- What outcomes tell.
pub mod Outcome
