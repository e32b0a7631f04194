pub mod Forms
pub mod Frame
pub mod Rows
