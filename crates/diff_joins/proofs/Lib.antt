pub mod CompareLemmas
mod Examples
pub mod JoinLemmas
pub mod ListingLemmas
pub mod MergeLemmas
pub mod MoreLemmas
pub mod PlaceLemmas
