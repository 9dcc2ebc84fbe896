-- The laws that the proofs here cite.
mod HeldLaw
pub mod CodeLaw
