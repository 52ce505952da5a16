-- A render that ends well has appended the content of its document.
use Rattle.std.proofs.Common.{◌≡◌, List, ℕ, Ok, Err, Result, refl}
use Rattle.std.specs.Prelude.{IfOk, IfSome}
use Rattle.prettyless_model.specs.declared.options.RenderOptions.{RenderOptions}
use Rattle.prettyless_sink.specs.declared.error.RenderError.{RenderError}
use Rattle.prettyless_model.specs.Tree.{Tree}
use Rattle.prettyless_model.specs.Layout.{Bytes, Whole, Cut, layout, whole_bytes}
use Rattle.prettyless_model.specs.Content.{HasContent, AppendsContent}
use Rattle.prettyless_model.proofs.Content.{content_of}
use Rattle.prettyless_printer.specs.Renders.{Rendered}

pub rendered_content : {A E : Type 0} (fails : E → Type 0) (o : RenderOptions) (d : Tree) (old new : List ℕ) (n m : ℕ)
    (r : Result A (RenderError E)) →
    Rendered fails (layout o d) old new n m r → IfOk r (λ _. AppendsContent d old new)
rendered_content {A} {E} fails o d old new n m (Ok x) h = (h.0, h.2, content_of o d h.0 h.1)
rendered_content {A} {E} fails o d old new n m (Err e) h = tt

printed_by : (o : RenderOptions) (d : Tree) (y : Bytes) → layout o d ≡ y → IfSome (whole_bytes y) (HasContent d)
printed_by o d (Whole b) e = content_of o d b e
printed_by o d (Cut b) e = tt

-- what prints where a layout does not fail has the content of its document
pub printed_content : (o : RenderOptions) (d : Tree) → IfSome (whole_bytes (layout o d)) (HasContent d)
printed_content o d = printed_by o d (layout o d) refl
