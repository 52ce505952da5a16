mod Digits
pub mod Closed
pub mod Comments
pub mod WordStops
mod Cuts
mod Opening
mod Refused
mod Steps
pub mod Allowed
pub mod Depths
pub mod GapLaws
pub mod KeyWords
