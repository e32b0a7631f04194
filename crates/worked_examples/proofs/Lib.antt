pub mod ExampleArrays
pub mod ExampleColumns
mod ExampleDocuments
mod ExampleFaults
mod ExampleParts
mod ExampleReport
pub mod ExampleRows
pub mod ExampleSides
mod ExampleTrees
pub mod ExampleVectors
mod ExampleWords
