pub mod ExampleDocuments
pub mod ExampleLines
pub mod ExampleReport
pub mod ExampleRules
pub mod ExampleSides
pub mod LawLemmas
mod PartLemmas
pub mod SideLemmas
mod SkippedLemmas
