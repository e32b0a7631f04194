pub mod Chosen
pub mod Comparables
pub mod Faults
pub mod Heads
pub mod Inputs
pub mod Lines
pub mod Lone
pub mod Run
