-- What the contracts below `command` cite, and that it fixes the outcome.
pub mod ByKind
