mod Examples
pub mod LineLemmas
pub mod NumberLemmas
pub mod PathLemmas
