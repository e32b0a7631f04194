mod Examples
mod Lent
mod StateMemory
pub mod TreeFaults
