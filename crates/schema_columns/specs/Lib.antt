pub mod Columns
pub mod Ends
pub mod Kinds
pub mod Present
