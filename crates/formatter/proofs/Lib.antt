-- The laws that proofs cite.
pub mod FormatLaw
