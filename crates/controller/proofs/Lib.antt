-- The laws that proofs cite, and the theorem of specs/ByKind.antt.
pub mod CommandLaw
pub mod Theorems
