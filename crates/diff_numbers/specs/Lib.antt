pub mod Cells
pub mod Columns
pub mod Errors
pub mod Laws
pub mod Rows
