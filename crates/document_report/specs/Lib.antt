pub mod Documents
pub mod Forms
pub mod Objects
pub mod Pairs
pub mod Report
