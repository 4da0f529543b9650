-- The laws of an answer in a program's buffer.
pub mod Placing
