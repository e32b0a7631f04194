pub mod Aligned
pub mod Changes
pub mod ColumnChanges
pub mod Grid
pub mod JsonLines
pub mod Laws
pub mod Text
pub mod Words
