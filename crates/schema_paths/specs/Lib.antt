pub mod Documents
pub mod Errors
pub mod Kinds
pub mod Paths
