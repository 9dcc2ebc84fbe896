-- What a fetch takes for granted.
pub mod Ready
