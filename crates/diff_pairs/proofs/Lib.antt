mod Examples
pub mod HeldLemmas
pub mod PairLemmas
pub mod Places
