-- The laws of sharing: what a step adds, when nothing is left to add, and that the marks are fixed.
pub mod Sharing
pub mod Fixed
