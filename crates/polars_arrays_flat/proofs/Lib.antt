pub mod ByteBlocks
pub mod ByteEquality
pub mod ByteParts
pub mod Examples
pub mod NullCounts
pub mod RowWindows
pub mod SameKinds
