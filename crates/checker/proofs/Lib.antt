-- The laws of the public operations, and the three demands.
pub mod Laws
pub mod FromReading
pub mod Numbers
pub mod Demands
