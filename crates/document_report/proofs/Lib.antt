pub mod DocumentLemmas
mod Examples
pub mod FormLemmas
pub mod Joins
