-- The definitions that the contracts of `judge` cite.
pub mod Merged
pub mod Pairs
pub mod Judged
