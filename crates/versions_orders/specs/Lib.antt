-- What giving an order takes for granted.
pub mod Ready
