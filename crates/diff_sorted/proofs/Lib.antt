pub mod BeginLemmas
pub mod EndLemmas
mod Examples
pub mod FaultLemmas
pub mod LineLemmas
pub mod RunLemmas
pub mod ToldLemmas
