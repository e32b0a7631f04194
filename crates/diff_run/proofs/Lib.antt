pub mod ChosenLemmas
pub mod ComparableLemmas
pub mod ExampleColumns
pub mod ExampleLines
pub mod ExampleReport
pub mod ExampleRows
mod Examples
pub mod LineLemmas
pub mod OnceLemmas
pub mod SideLemmas
