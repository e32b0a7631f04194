mod Examples
pub mod LineLaws
pub mod Pieces
pub mod PlainLaws
pub mod ReadLaws
mod ReportExample
pub mod StringLaws
