pub mod Choice
pub mod Errors
pub mod Layout
pub mod LayoutLaws
pub mod Names
pub mod Pairs
