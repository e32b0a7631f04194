pub mod Faults
pub mod Laws
pub mod Run
pub mod Sides
pub mod Skipped
