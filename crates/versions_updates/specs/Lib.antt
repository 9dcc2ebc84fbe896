-- What the changes of a state ask for.
pub mod Ready
