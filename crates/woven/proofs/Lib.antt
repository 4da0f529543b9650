-- The laws of the words: their parts, words put in rising order, where those of a symbol stand, and that the words mean the same transitions as the rows.
pub mod Indexing
pub mod Inserting
pub mod Parts
