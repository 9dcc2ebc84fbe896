-- Laws of the crate.
pub mod OrderLaw
