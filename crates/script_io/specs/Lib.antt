-- A turn of the script program, and the claim of what the turns write.
pub mod Turn
pub mod Claims
