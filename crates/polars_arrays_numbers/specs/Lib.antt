pub mod Count
pub mod Naturals
pub mod Ranges
pub mod Wrapping
pub mod WrappingLaws
