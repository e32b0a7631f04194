pub mod Said
pub mod Schemas
