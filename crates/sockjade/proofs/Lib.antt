-- The laws that proofs cite.
pub mod DigestLaw
