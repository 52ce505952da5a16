pub mod TextClones
pub use Rattle.prettyless_build.specs.Builds
pub use Rattle.prettyless_build.specs.Iterated
pub use Rattle.prettyless_doc.specs.BuildErrors
pub use Rattle.prettyless_trees.specs.Built
pub use Rattle.prettyless_trees.specs.Counted
pub use Rattle.prettyless_model.specs.Tree
