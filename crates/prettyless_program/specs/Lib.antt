pub mod Codes
pub mod Faults
pub mod Instructions
pub mod Programs
pub mod Made
pub mod Laws
pub use Rattle.prettyless_model.specs.Tree
