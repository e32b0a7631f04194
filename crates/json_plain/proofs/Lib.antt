mod Examples
pub mod NumberLemmas
pub mod PlainLaws
pub mod PlainLemmas
pub mod StringLemmas
pub mod ValueLaws
