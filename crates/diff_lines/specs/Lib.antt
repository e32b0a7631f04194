pub mod Errors
pub mod LineLaws
pub mod Lines
pub mod PartLaws
pub mod Parts
