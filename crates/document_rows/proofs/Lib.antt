pub mod DocumentLemmas
mod ExampleTables
mod Examples
mod KnownLemmas
mod LineLemmas
mod NumberLemmas
mod PairLemmas
mod PartLemmas
mod RowLemmas
