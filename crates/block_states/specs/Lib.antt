-- What the functions of this crate take for granted and leave to each other. What `states` answers is machine's Query.
pub mod Links
pub mod Fill
