pub mod ByteBits
pub mod ByteWords
pub mod Kinds
pub mod Lent
pub mod Refusals
pub mod Written
