-- What is put into a buffer.
pub mod Put
