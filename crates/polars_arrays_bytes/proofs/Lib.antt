pub mod Examples
pub mod OffsetWindows
pub mod RisingOffsets
pub mod WholeTexts
pub mod Windows
