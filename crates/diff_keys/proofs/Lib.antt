pub mod ChainLemmas
mod Examples
pub mod FirstLemmas
pub mod FoundLemmas
pub mod ListingLemmas
pub mod MatchingLemmas
pub mod UniqueLemmas
pub mod WaitsLemmas
