-- The printout of a script, the reader that prints it piece by piece, and the claim that it does.
pub mod Printout
pub mod Reader
pub mod Claims
