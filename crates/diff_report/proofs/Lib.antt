mod Examples
pub mod Joins
pub mod LineLemmas
pub mod NamedLemmas
pub mod CountLemmas
