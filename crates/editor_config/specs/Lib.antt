pub mod Patterns
pub mod Said
