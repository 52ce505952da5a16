pub mod Sizes
pub mod Frames
pub mod Stacks
pub mod Probes
pub mod Counting
pub mod Texts
pub mod Sums
pub mod SumsRead
