pub mod Ends
pub mod Faults
pub mod KeptLaws
pub mod Lines
pub mod Told
