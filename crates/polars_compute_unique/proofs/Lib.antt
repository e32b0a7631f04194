pub mod Counted
pub mod Examples
pub mod Keys
pub mod Merges
pub mod NullKeys
pub mod TruthCounts
