-- The definitions that the contracts of script_lines cite, and the claims about them.
pub mod Syntax
pub mod Reading
pub mod Claims
