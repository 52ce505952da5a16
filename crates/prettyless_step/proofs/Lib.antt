pub mod Queues
pub mod Shown
pub mod Summaries
