-- Laws that the proofs of the code cite.
pub mod LayoutLaw
pub mod AskedLaw
