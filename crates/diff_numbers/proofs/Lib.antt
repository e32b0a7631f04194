mod Examples
pub mod AsciiLemmas
pub mod CellLemmas
pub mod RowLemmas
