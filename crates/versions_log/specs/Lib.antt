-- What a log block to be filled asks for.
pub mod Ready
