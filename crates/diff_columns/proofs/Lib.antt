mod Examples
pub mod LayoutLemmas
pub mod NameLemmas
