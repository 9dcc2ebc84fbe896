-- The definitions that the contract of validity cites, and every crate above it.
pub mod Valid
pub mod Claims
