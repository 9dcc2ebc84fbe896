-- The laws that proofs here and in the crates above cite.
pub mod StageLaw
pub mod OrderLaw
pub mod WriteLaw
pub mod RangeLaw
pub mod PutLaw
pub mod CallLaw
