-- What is read of a certificate's lines, byte by byte, and what the answers say in paper's words.
pub mod Number
pub mod Value
pub mod Line
pub mod Listed
pub mod Lines
pub mod Trans
pub mod Merge
pub mod Padded
pub mod Said
