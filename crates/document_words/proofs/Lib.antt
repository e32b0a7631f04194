pub mod CountedLemmas
mod Examples
pub mod NamedLemmas
pub mod ReadLemmas
pub mod ShortLemmas
