pub mod Appended
pub mod Chains
