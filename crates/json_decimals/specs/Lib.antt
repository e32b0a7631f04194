pub mod Decimals
pub mod Errors
pub mod Laws
pub mod Ranges
pub mod Texts
