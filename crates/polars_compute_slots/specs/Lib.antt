pub mod Slots
pub mod State
