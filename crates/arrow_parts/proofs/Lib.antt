pub mod ByteWordLemmas
pub mod Examples
pub mod WrittenLemmas
