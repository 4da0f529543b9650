-- The definitions that the contracts of `sharing` cite.
pub mod Share
