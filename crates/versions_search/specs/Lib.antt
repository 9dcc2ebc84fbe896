-- What a search takes for granted, and where it begins.
pub mod Ready
