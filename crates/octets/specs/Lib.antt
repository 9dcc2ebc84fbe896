-- The definitions that the contracts of octets cite, and every crate above it.
pub mod Part
pub mod Number
pub mod Signed
