-- Laws that the theorems cite, and the theorems.
pub mod FieldLaw
pub mod ValidLaw
pub mod MigrateLaw
pub mod BoxLaw
pub mod AskedLaw
pub mod MovedLaw
pub mod EventLaw
pub mod SearchLaw
pub mod OrderLaw
pub mod StoreLaw
pub mod WalkLaw
pub mod StateLaw
pub mod BytesLaw
pub mod OfficeLaw
pub mod Theorems
