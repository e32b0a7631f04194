mod Examples
pub mod GroupLemmas
pub mod PathLemmas
