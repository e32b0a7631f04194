mod Examples
pub mod DepthLemmas
pub mod LawLemmas
pub mod MemberLemmas
pub mod NarrowLemmas
pub mod OrderLemmas
pub mod SameLemmas
pub mod SortedLemmas
pub mod TextLemmas
pub mod WholeLemmas
pub mod WrittenLemmas
