-- The definitions that the contracts of blake3_compress cite.
pub mod Compress
