pub mod CountLemmas
mod Examples
pub mod LineLemmas
pub mod SideLemmas
