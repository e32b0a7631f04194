pub mod EqualLemmas
mod Examples
pub mod NormalLemmas
pub mod NumberLemmas
pub mod RangeLemmas
pub mod SpelledLemmas
pub mod TensLemmas
pub mod TextLemmas
