pub mod Piece
pub mod Steps
pub mod Reads
pub mod Printing
pub mod Costs
