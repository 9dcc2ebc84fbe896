-- Laws that the code's proofs cite.
pub mod StartLaw
pub mod CallLaw
