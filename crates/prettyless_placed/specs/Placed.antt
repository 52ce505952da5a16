-- What a call promises that places what another call has built.
use Rattle.std.specs.Prelude.{◌≡◌, Result, Ok, Err, IfOk, IfErr}
use Rattle.prettyless_model.specs.Tree.{Tree}
use Rattle.prettyless_doc.specs.DocTree.{built}
use Rattle.prettyless_doc.specs.declared.doc.BuildDoc.{BuildDoc}
use Rattle.prettyless_text.specs.declared.text.BuildError.{BuildError}
use Rattle.prettyless_build.specs.Builds.{Builds, IfPlaced}

-- `made` is what the other call answered, `doc` the document of a builder, and `tree` the tree of a pointer.
pub record Places {B T : Type 0} (made : Result B BuildError) (doc : B → BuildDoc T) (tree : T → Tree)
    (result : Result T BuildError) : Type 0 where
  -- Where it is a document, the result is a pointer to it, or memory was refused.
  pub ok : IfOk made (λ b. Builds result tree (built tree (doc b)))
  -- Where that document has a pointer already, this is the result.
  pub same : IfOk made (λ b. IfPlaced (doc b) (λ p. result ≡ Ok p))
  -- Where it is an error, so is the result.
  pub err : IfErr made (λ e. result ≡ Err e)
