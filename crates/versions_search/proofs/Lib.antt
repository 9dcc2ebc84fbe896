-- Laws of the crate.
pub mod IntervalLaw
pub mod RoundLaw
