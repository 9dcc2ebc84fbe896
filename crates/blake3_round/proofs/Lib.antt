-- The laws that proofs cite.
pub mod WordLaw
pub mod RoundLaw
