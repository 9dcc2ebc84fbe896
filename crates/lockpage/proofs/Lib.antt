-- The laws that proofs here and in the crates above cite, and the theorems of specs/Claims.antt.
pub mod GeometryLaw
pub mod EntryLaw
pub mod StateLaw
pub mod UpdateLaw
pub mod PageLaw
pub mod Theorems
