pub mod ArithmeticRows
pub mod Examples
pub mod MergedStates
pub mod QuotientLaws
pub mod ReadStates
pub mod ReducedRows
pub mod SumsOfParts
