pub mod Neighbours
pub mod ShownLaws
pub mod Rows
