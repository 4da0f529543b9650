-- The definitions that the contracts over the tables cite.
pub mod Held
pub mod Sound
