-- The calls on a state's bytes, and that these and what the store keeps say the same.
pub mod Call
pub mod Run
pub mod Claims
