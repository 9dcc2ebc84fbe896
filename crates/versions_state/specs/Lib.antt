-- The bytes of the version store's state.
pub mod Layout
pub mod State
