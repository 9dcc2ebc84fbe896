-- What is claimed of BLAKE3's definition on some of its published test vectors.
pub mod Published
