pub mod Dictionaries
pub mod KeyLends
pub mod KeyState
pub mod Seen
pub mod Sorted
pub mod Trees
pub mod Truths
