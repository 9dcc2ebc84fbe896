-- The definitions that the contracts of disk cite, and every crate above it.
pub mod Disk
pub mod Ready
pub mod Claims
