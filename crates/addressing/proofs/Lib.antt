-- The laws that proofs here and in the crates above cite, and the theorems of specs/Claims.antt.
pub mod MapLaw
pub mod Theorems
