-- The definitions that the contracts of blake3_round cite, and every crate above it.
pub mod Round
