-- The laws of automata and rules read line by line into tables.
pub mod Arrays
pub mod Chain
pub mod Blocks
pub mod Masks
pub mod RuleLaws
