pub mod Equality
pub mod Followed
pub mod Joining
pub mod Order
pub mod OrderLaws
pub mod Pairs
pub mod Sameness
