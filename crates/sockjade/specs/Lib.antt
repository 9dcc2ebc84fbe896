-- The definitions that the contract of the exported digest cites. Those of the other two functions cite machine.
pub mod Digest
