pub mod Faults
pub mod OffsetStrings
pub mod SizedStrings
pub mod Texts
