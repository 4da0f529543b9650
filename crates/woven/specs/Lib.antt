-- The definitions that the contracts of `woven` cite.
pub mod Order
pub mod Woven
pub mod Ready
pub mod Meant
