pub mod Compared
pub mod Differing
pub mod Faults
pub mod Given
pub mod Read
