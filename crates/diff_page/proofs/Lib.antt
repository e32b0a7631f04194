mod Examples
pub mod Escapes
pub mod NoTag
