-- What the functions of migration ask for.
pub mod Ready
