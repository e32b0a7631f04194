pub mod Tables
pub mod Types
pub mod Word
pub mod ParsingLaws
pub mod Faults
pub mod Written
pub mod WrittenLaws
pub mod RowsLaws
