-- What contracts cite: what a lent buffer holds afterwards.
pub mod Rendered
