pub mod Maps
pub mod Operations
pub mod Quotients
pub mod Reciprocal
pub mod Results
pub mod Zeros
pub mod WrapLaws
