pub mod Faults
pub mod Parts
pub mod Texts
pub mod Views
