-- The definitions that the contracts of automata and rules cite.
pub mod Draft
pub mod Packed
pub mod Handed
