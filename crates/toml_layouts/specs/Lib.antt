pub mod Documents
pub mod Keyed
pub mod Laws
