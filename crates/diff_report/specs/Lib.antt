pub mod Counts
pub mod Lines
pub mod Naming
pub mod Pairs
pub mod Report
pub mod Rows
pub mod Sides
pub mod Summary
