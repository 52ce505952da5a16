pub mod BuildErrors
pub mod Cached
pub mod Payload
pub mod Printed
pub mod Small
pub mod Source
pub mod TextBytes
pub use Rattle.prettyless_trees.specs.Breaks
