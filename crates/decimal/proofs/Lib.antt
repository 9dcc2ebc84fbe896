-- The laws of a number's text, which crates above cite, and the claims of specs/Claims.antt, proved.
pub mod DecimalLaw
pub mod PutLaw
pub mod Theorems
