pub mod Laws
pub mod Parts
pub mod Rows
