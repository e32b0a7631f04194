mod Examples
pub mod GridLemmas
pub mod KindLemmas
