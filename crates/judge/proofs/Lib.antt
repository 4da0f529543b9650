-- The laws of the judgement: the merged table, the first final pair, and that the code judges what the tables mean.
pub mod Merge
pub mod Seek
pub mod Pairing
pub mod Bridge
pub mod Whole
pub mod Fixed
