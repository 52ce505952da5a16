pub mod Rooms
pub mod Shifting
