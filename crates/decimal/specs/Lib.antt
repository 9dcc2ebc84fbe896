-- The definitions that the contracts of decimal cite, and the claims about them.
pub mod Decimal
pub mod Claims
