pub mod Printed
pub mod Bytes
pub mod OneLine
pub mod Broken
pub mod Statements
pub mod Keys
