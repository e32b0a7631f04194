pub mod Added
pub mod Cuts
pub mod Examples
pub mod Known
pub mod Texts
pub mod TooMany
