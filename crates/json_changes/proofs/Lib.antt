mod Examples
pub mod ApartLemmas
pub mod FoundLemmas
pub mod LeadLemmas
pub mod MissedLemmas
pub mod NameLemmas
pub mod PartLemmas
pub mod RealLemmas
pub mod SameLemmas
pub mod TableLemmas
pub mod TextLemmas
pub mod ToleranceLemmas
