-- The definitions that the contracts of lockpage cite, and every crate above it.
pub mod Geometry
pub mod Size
pub mod Entry
pub mod State
pub mod Update
pub mod Page
pub mod Claims
