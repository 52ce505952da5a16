pub mod Gaps
pub mod Lists
pub mod Pieces
pub mod Walks
