pub mod Chains
pub mod Has
pub mod Knowing
pub mod Ink
pub mod Packing
pub mod Weak
