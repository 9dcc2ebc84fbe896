-- The commands of a put, and what its forecast takes for granted.
pub mod Orders
pub mod Stages
pub mod Ready
