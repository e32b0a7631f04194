pub mod Examples
pub mod Joins
pub mod Lengths
pub mod Options
pub mod RowLists
pub mod Refused
pub mod FirstWords
pub mod Unmasked
