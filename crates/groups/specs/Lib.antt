-- Numbers as they are written and read, what the contracts cite of that, and what the laws say.
pub mod Number
pub mod Given
pub mod Relied
