pub mod Document
pub mod Open
