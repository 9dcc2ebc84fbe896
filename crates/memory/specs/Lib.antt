-- The definitions that the contracts of memory cite, and every crate above it.
pub mod Layout
pub mod Memory
pub mod Ready
pub mod Claims
