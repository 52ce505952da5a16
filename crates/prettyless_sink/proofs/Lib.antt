pub mod Beginnings
mod Gaps
pub mod Known
