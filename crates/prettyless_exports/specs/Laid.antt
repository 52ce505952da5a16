-- What a layout into an area leaves.
use Rattle.std.specs.Prelude.{◌≡◌, ℕ, List, ◌++◌, Result, Ok, Err, OnOk}
use Rattle.prettyless_exports.specs.Overlay.{PutsAll, PutsToLimit, KeepsLimit}
use Rattle.prettyless_model.specs.Content.{HasContent}
use Rattle.prettyless_model.specs.Layout.{Bytes, Whole, Cut, bytes_in, layout}
use Rattle.prettyless_model.specs.Tree.{Tree}
use Rattle.prettyless_model.specs.declared.options.RenderOptions.{RenderOptions}
use Rattle.prettyless_sink.specs.declared.error.RenderError.{RenderError}
use Rattle.prettyless_sink.specs.declared.error.RenderError.TheVariants.{Document, Sink, Memory}

-- A layout y went into an area that held `old` and holds `new`; so many bytes were counted, and the answer is r.
-- `Ok`: the layout is whole, and all of it was put. `Document`: the layout fails, and the bytes before its failing node
-- were put. `Sink`: the layout is longer than the limit, and its bytes as far as the limit were put. `Memory`: a
-- beginning of the layout was put.
abbrev pub Laid : {A E : Type 0} → Bytes → ℕ → List ℕ → List ℕ → ℕ → Result A (RenderError E) → Type 0
Laid y limit old new count (Ok r) = (bytes : List ℕ) × (y ≡ Whole bytes) × PutsAll limit bytes old new count
Laid y limit old new count (Err (Document e)) = (bytes : List ℕ) × (y ≡ Cut bytes) × PutsAll limit bytes old new count
Laid y limit old new count (Err (Sink e)) = PutsToLimit limit (bytes_in y) old new count
Laid y limit old new count (Err (Memory e)) = (front : List ℕ) × (back : List ℕ) × (bytes_in y ≡ front ++ back)
    × PutsAll limit front old new count

-- The tree d was laid into an area, with a limit.
pub record LaysInto {A E : Type 0} (o : RenderOptions) (d : Tree) (limit : ℕ) (old new : List ℕ) (count : ℕ)
    (result : Result A (RenderError E)) : Type 0 where
  -- what was put of the layout's bytes
  pub bytes : Laid (layout o d) limit old new count result
  -- whatever the answer, no byte past the limit was put
  pub limited : KeepsLimit limit old new count
  -- `Ok`: the bytes have the document's content
  pub content : OnOk result (HasContent d (bytes_in (layout o d)))
