mod Examples
pub mod DistinctLemmas
pub mod NumberLemmas
pub mod PlaceLemmas
