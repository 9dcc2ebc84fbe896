-- The laws of the reader and of what it prints, by theme, and the claim of specs/Claims.antt, proved.
pub mod TextLaw
pub mod ReaderLaw
pub mod BodyLaw
pub mod HeaderLaw
pub mod PlaceLaw
pub mod FeedLaw
pub mod Theorems
