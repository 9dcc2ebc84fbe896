-- The marks of the blocks walked, and what the functions of this crate take for granted. What `recover` answers is recovery_machine's.
pub mod Marks
pub mod Ready
