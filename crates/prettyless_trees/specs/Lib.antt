pub mod Lines
pub mod Breaks
pub mod Counted
pub mod Built
pub mod Words
pub mod Lists
