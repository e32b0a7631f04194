mod Examples
pub mod GivenLemmas
pub mod MarkLemmas
pub mod NameLemmas
pub mod ReadingLemmas
pub mod RowLemmas
