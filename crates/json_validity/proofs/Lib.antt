mod Fuel
mod Lists
mod Values
mod Open
pub mod Documents
