pub mod Cells
pub mod Partners
pub mod Rows
