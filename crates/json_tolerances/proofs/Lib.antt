mod Examples
pub mod ClosenessLemmas
pub mod SumLemmas
pub mod TermLemmas
