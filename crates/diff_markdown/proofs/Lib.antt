mod Examples
pub mod InsideLaws
pub mod NumberLemmas
pub mod PartLemmas
pub mod SafeLemmas
pub mod StringLemmas
pub mod TextLemmas
pub mod ValueLaws
