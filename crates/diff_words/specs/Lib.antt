pub mod Cells
pub mod Colors
pub mod Lists
pub mod Quoted
pub mod Words
