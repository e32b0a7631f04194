mod Examples
pub mod AlikeLemmas
pub mod CompareLemmas
pub mod GroupLemmas
pub mod KeyLemmas
pub mod TableLemmas
