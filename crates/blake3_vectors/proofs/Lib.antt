-- The claims of specs/Published.antt, proved.
pub mod Computed
