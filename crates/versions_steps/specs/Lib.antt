-- What the steps of a put and of a store on demand take for granted.
pub mod Ready
