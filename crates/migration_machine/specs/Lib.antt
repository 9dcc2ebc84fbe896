-- The migration as definitions, and the claims about it.
pub mod Migrate
pub mod Claims
pub mod Promise
