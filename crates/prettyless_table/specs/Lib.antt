pub mod Parts
pub mod Sums
pub mod Cells
pub mod Stored
pub mod Owners
