-- The laws of the search: substitutions by their places, what is passed over, and what each turn and each way out says.
pub mod Order
pub mod Walk
pub mod Passed
pub mod Steps
pub mod Turns
pub mod Loops
pub mod Choosing
