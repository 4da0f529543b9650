-- The laws of what an answer says, for the crates above this one.
pub mod Told
