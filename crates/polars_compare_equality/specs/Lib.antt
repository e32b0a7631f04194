pub mod Answers
pub mod SlotsLaws
