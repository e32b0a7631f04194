mod Examples
pub mod HashLemmas
pub mod KeptLemmas
pub mod OnePart
