pub mod Ascii
pub mod Measured
pub mod Parts
