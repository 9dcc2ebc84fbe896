-- The definitions that the contracts of addressing cite, and every crate above it.
pub mod Map
pub mod Claims
