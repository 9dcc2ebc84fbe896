-- The laws of a turn, which the code proofs cite, and the claim of specs/Claims.antt, proved.
pub mod TurnLaw
pub mod Theorems
