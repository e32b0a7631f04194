pub mod Line
pub mod Output
pub mod Reading
pub mod Answers
pub mod Command
