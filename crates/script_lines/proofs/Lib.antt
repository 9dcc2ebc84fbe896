-- The laws of a script's lines, by theme, and the claims of specs/Claims.antt, proved.
pub mod CutLaw
pub mod ReadingLaw
pub mod FieldLaw
pub mod SyntaxLaw
pub mod LineLaw
pub mod Theorems
