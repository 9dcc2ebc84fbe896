-- What the held page's functions take for granted.
pub mod Ready
