-- The definitions that the contracts of script_answers cite.
pub mod Answer
