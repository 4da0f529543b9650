-- The sides of rules as the code reads them.
pub mod Tokens
