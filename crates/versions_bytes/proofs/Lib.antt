-- The laws that proofs here and in the crates above cite.
pub mod PlaceLaw
pub mod NewestLaw
pub mod RecordLaw
pub mod StateLaw
pub mod FitLaw
pub mod FieldsLaw
pub mod ReadFitsLaw
pub mod CallFitsLaw
pub mod FollowLaw
pub mod Theorems
