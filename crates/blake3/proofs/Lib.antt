-- The laws that proofs here and in the crates above cite, and the theorems of specs/Claims.antt.
pub mod WordLaw
pub mod MessageLaw
pub mod ChunkLaw
pub mod OutputLaw
pub mod LeftLaw
pub mod TreeLaw
pub mod Theorems
