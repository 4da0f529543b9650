-- The laws of the tables: their transitions, their final states, and how long their arrays are.
pub mod Limits
pub mod Members
pub mod Moves
