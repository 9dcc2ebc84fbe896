-- Recovery as definitions, and the claims about it.
pub mod Walk
pub mod Recover
pub mod Claims
pub mod Promise
pub mod Met
