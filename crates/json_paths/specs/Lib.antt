pub mod Errors
pub mod Laws
pub mod Paths
pub mod PatternViews
pub mod Patterns
pub mod Reading
pub mod Texts
pub mod Views
