-- The laws that proofs here and in the crates above cite, and the theorem of specs/Claims.antt.
pub mod DiskLaw
pub mod LentLaw
pub mod Theorems
