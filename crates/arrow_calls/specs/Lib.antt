pub mod Columns
pub mod Counts
pub mod Numbers
pub mod Operations
pub mod Statuses
