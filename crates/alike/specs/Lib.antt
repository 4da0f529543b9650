-- The definitions that the contracts of `alike` cite.
pub mod Alike
pub mod Words
pub mod Sides
pub mod Needed
