pub mod Columns
pub mod Good
pub mod Shapes
pub mod Stacks
pub mod Stands
pub mod Views
