pub mod Results
pub mod Paired
pub mod PresentBits
mod Examples
