-- The laws of values: sets of classes, rows and sheets of lanes, terms among the tokens, what is kept, and one step of a valuation.
pub mod Spanned
pub mod Rows
pub mod Gathering
pub mod Sheets
pub mod Standing
pub mod Keeping
pub mod Valuing
