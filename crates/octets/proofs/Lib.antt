-- The laws that proofs here and in the crates above cite.
pub mod OrderLaw
pub mod BelowLaw
pub mod RepeatedLaw
pub mod PartLaw
pub mod ReplacedLaw
pub mod NumberLaw
pub mod ShiftLaw
pub mod SignedLaw
pub mod EqualLaw
