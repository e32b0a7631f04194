mod Compared
mod Examples
pub mod Written
