pub mod Closeness
pub mod Errors
pub mod Laws
pub mod Order
pub mod OrderLaws
