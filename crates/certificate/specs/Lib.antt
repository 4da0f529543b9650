-- The definitions that the reader's contracts cite.
pub mod Read
