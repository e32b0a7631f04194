pub mod Bits
pub mod Blocks
pub mod Logic
pub mod Packing
