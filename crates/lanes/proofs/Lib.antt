-- The laws of batches: what the variables' sheets and the sides' say in each lane, and which substitutions have no critical pair.
pub mod Batches
pub mod Calm
pub mod Coded
pub mod Comparing
pub mod Dead
pub mod Judging
pub mod Numbers
pub mod Opened
pub mod Shown
pub mod SideRows
pub mod Stays
pub mod Trying
pub mod VariableRows
