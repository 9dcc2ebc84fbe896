-- Laws that the code's proofs cite.
pub mod MarksLaw
pub mod RecordsLaw
pub mod RefusalLaw
pub mod WalkLaw
