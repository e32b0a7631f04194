pub mod Differences
pub mod Errors
pub mod Laws
pub mod Names
pub mod Rules
pub mod Texts
