pub mod Changes
pub mod Grid
pub mod JsonLines
pub mod Said
pub mod Text
