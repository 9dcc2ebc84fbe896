-- The laws that proofs here and in the crates above cite, and the theorems of specs/Claims.antt.
pub mod HeldLaw
pub mod FieldLaw
pub mod FormatLaw
pub mod RangeLaw
pub mod CodeLaw
pub mod Theorems
