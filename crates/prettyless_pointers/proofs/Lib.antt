pub mod Copies
pub mod CountedWeight
pub mod InPlace
pub mod Weight
