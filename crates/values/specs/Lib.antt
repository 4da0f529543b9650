-- The definitions that the contracts of `values` cite.
pub mod Sets
pub mod Lanes
pub mod Rows
pub mod Standing
