mod Examples
pub mod NumberLemmas
pub mod TextLemmas
