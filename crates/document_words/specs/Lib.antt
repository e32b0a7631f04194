pub mod Changes
pub mod Counts
pub mod Keys
pub mod Laws
pub mod Lines
pub mod Numbers
pub mod Sides
pub mod Skipped
