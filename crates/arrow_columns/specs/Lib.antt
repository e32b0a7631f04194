pub mod Comparing
pub mod Counting
pub mod Reductions
