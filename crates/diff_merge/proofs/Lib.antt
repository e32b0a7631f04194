mod Examples
pub mod CursorLemmas
pub mod EndLemmas
pub mod FaultLemmas
pub mod KeyOrderLemmas
pub mod MergeLemmas
pub mod OrderLemmas
