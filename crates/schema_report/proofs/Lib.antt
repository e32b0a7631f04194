pub mod ChangeLemmas
mod Examples
pub mod GridLemmas
pub mod Pieces
pub mod SameLemmas
