-- What the storing of pages takes for granted; the contracts cite the definitions of machine.
pub mod Ready
