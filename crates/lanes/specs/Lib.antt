-- The definitions that the contracts of `lanes` cite.
pub mod Automaton
pub mod Prefixes
pub mod Batches
