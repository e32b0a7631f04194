mod Examples
pub mod Lent
