-- What a formatter took, piece by piece, and what it displays then.
use Rattle.std.proofs.Common.{◌≡◌, ℕ, List, [], ◌∷◌, ◌++◌, sym, ◌∙◌, subst, Option, Some, None, IfSome, Result, Ok}
use Rattle.std.proofs.lemmas.List.Folds.{concat-append}
use Rattle.std.specs.List.{FoldsTo}
use Rattle.std.specs.Fmt.{WritesInCalls, DisplaysOnOk, DisplaysStyledOnOk}
use Rattle.std.specs.Coded.{Coded}
use Rattle.std.specs.declared.fmt.Formatter.{Formatter}
use Rattle.std.specs.declared.fmt.Error.{Error}
use Rattle.prettyless_model.specs.Layout.{Bytes, whole_bytes}
use Rattle.prettyless_printer.specs.Renders.{Rendered}
use Rattle.prettyless_doc.specs.Ledger.{ledger}
use Rattle.prettyless_doc.specs.Streams.{Streams}
use Rattle.prettyless_doc.proofs.Ledgers.{ledger_grew}

-- steps over some items, and then over more
folds_append : {P A : Type 0} (R : P → A → P → Type 0) (p : P) (xs : List A) (q : P) (ys : List A) (u : P)
    → FoldsTo R p xs q → FoldsTo R q ys u → FoldsTo R p (xs ++ ys) u
folds_append R p [] q ys u first second = subst (λ x. FoldsTo R x ys u) (sym first) second
folds_append R p (x ∷ xs) q ys u first second = (first.0, first.1, folds_append R first.0 xs q ys u first.2 second)

-- calls that wrote some bytes, and then more
calls_append : {W : Type 0} (took : W → List ℕ → W → Type 0) (w : W) (a : List ℕ) (v : W) (b : List ℕ) (u : W)
    → WritesInCalls took w a v → WritesInCalls took v b u → WritesInCalls took w (a ++ b) u
calls_append took w a v b u first second = record {
  parts = first.parts ++ second.parts;
  calls = folds_append took w first.parts v second.parts u first.calls second.calls;
  whole = concat-append first.parts second.parts ∙ (λ i. first.whole i ++ second.whole i);
}

module _ {W : Type 0} (took : W → List ℕ → W → Type 0) where
  -- a formatter took some bytes, and then more
  pub streams_append : (f g h : Formatter W) (a b : List ℕ) → Streams took f a g → Streams took g b h → Streams took f (a ++ b) h
  streams_append f g h a b first second flush =
      let begun = first flush in
      let ended = second begun.flush in
      record {
        wrote = calls_append took f.writer a g.writer b h.writer begun.wrote ended.wrote;
        spec = ended.spec ∙ begun.spec;
        flush = ended.flush;
      }

  module _ (f g : Formatter W) (r : Result (Unit {0}) Error) where
    -- what a formatter took is displayed, whatever its options
    pub displays_styled : (text : Option (List ℕ)) → IfSome text (λ bytes. Streams took f bytes g) → DisplaysStyledOnOk took f r text g
    displays_styled None streams = tt
    displays_styled (Some bytes) streams = λ flush ok. streams flush

    -- the same of a formatter with no options
    pub displays : (text : Option (List ℕ)) → IfSome text (λ bytes. Streams took f bytes g) → DisplaysOnOk took f r text g
    displays None streams = tt
    displays (Some bytes) streams = λ plain ok.
        let written = streams plain.flush in
        record { wrote = written.wrote; plain = record { bare = rw written.spec plain.bare; flush = written.flush } }

-- A sink that did not fail was given the whole layout: that is what the formatter took.
pub streams_layout : {W A E : Type 0} (coded : Coded (Formatter W)) (took : W → List ℕ → W → Type 0) (fails : E → Type 0) (y : Bytes)
    (f start g : Formatter W) (given : List ℕ) (failures : ℕ) (x : A)
    → Rendered fails y (ledger coded f []) (ledger coded start given) 0 failures (Ok x)
    → (failures ≡ 0 → Streams took start given g)
    → IfSome (whole_bytes y) (λ bytes. Streams took f bytes g)
streams_layout coded took fails y f start g given failures x rendered streams =
    let grew = ledger_grew coded f start [] given rendered.0 rendered.2 in
    rw rendered.1 (rw (grew.0, grew.1) at (streams rendered.3))
