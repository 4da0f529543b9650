-- The laws of the sides: the passes over their tokens, and their lines, say what paper says.
pub mod PassLaws
pub mod SideLaws
pub mod Further
pub mod TokenReadings
pub mod TokenLines
pub mod SidesTold
pub mod Fixed
