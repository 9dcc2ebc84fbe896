-- Laws that the theorems cite, and the theorems.
pub mod WalkLaw
pub mod ReadLaw
pub mod LastLaw
pub mod LogWalkLaw
pub mod RecoverLaw
pub mod EndLaw
pub mod HeldLaw
pub mod PointLaw
pub mod PromiseLaw
pub mod AcceptedLaw
pub mod AttackLaw
pub mod OrderBytesLaw
pub mod MetLaw
pub mod Theorems
