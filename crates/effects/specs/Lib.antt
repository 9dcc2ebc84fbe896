-- What the effects of commands take for granted.
pub mod Ready
