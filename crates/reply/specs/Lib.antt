-- What a program finds in its buffer.
pub mod Placed
