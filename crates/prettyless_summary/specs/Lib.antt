pub mod Summary
pub mod Known
pub mod Marks
