mod Examples
pub mod PartnerLemmas
pub mod RowLemmas
