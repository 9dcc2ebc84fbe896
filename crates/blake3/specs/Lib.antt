-- The definitions that the contracts of blake3 cite, and the claims about them that proofs/Theorems.antt proves.
pub mod Blake3
pub mod Claims
pub mod Ready
