pub mod Laws
pub mod Merge
pub mod More
