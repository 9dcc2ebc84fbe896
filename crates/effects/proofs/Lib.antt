-- The laws that proofs cite.
pub mod TimedLaw
pub mod UpkeepLaw
pub mod ChangeLaw
