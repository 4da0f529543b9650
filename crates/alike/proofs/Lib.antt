-- The laws of alike classes: words that differ in one argument, walks over a rule's sides, and that a class may stand for one that is alike.
pub mod Carried
pub mod First
pub mod Steps
pub mod Rests
pub mod Words
pub mod Sides
pub mod Lowest
pub mod Enough
