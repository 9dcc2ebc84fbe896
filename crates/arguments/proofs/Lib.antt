-- The laws that proofs cite.
pub mod KindLaw
pub mod ArgumentLaw
