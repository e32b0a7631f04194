mod Examples
pub mod HighLaws
pub mod ListLemmas
pub mod PlainLaws
pub mod QuotedLemmas
