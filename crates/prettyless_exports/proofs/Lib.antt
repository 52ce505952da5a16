mod Accounts
pub mod Areas
mod Lays
pub mod Limits
pub mod Numbered
mod Overlaid
