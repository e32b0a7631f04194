pub mod Arithmetic
pub mod Answers
