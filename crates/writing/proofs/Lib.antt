-- The laws of bytes put one after the other, and of digits.
pub mod Laws
pub mod Digits
