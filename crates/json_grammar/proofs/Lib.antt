mod Spelling
mod Values
pub mod Grammar
mod Content
mod Reached
mod Meeting
mod Completed
mod Accepted
mod Closing
mod CutOff
mod Stopped
mod Begun
