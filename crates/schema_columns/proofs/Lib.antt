mod Examples
pub mod DistinctLemmas
pub mod EndLemmas
pub mod KindLemmas
