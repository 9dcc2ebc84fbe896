-- The version store as definitions, and the claims about it.
pub mod Versions
pub mod Log
pub mod Allocation
pub mod Plan
pub mod Foresight
pub mod Call
pub mod Run
pub mod Claims
pub mod After
pub mod History
pub mod Locks
