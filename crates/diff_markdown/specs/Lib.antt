pub mod Cells
pub mod Counts
pub mod Escapes
pub mod Laws
pub mod Markdown
pub mod Rows
