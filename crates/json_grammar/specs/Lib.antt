pub mod Grammar
pub mod Expected
pub mod Next
pub mod Readings
pub mod Steps
pub mod Strings
pub mod Faults
pub mod Laws
