pub mod BitLaws
pub mod Bitwise
pub mod Folds
pub mod Sum
pub mod SumLaws
