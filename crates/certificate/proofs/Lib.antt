-- The laws of the whole file: what its tables hold, what a reading of it comes to, and that two answers for it are equal.
pub mod ClassLaws
pub mod TableLaws
pub mod File
pub mod HeldTables
pub mod HeldRules
pub mod Sound
