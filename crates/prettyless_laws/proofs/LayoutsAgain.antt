-- A document that is laid again has the layout that it had.
use Rattle.std.proofs.Common.{◌≡◌, refl, sym, ◌∙◌, ap, ℕ, List, []}
use Rattle.prettyless_model.specs.Layout.{Done, Failed, Outcome, State, Whole, and_then, bytes_of, initial, lay}
use Rattle.prettyless_model.specs.Levels.{settle, settle_end}
use Rattle.prettyless_model.specs.declared.mode.Mode.TheVariants.{Break}
use Rattle.prettyless_model.proofs.Levels.{layout_is}
use Rattle.prettyless_laws.proofs.Following.{alike_same}
use Rattle.prettyless_laws.proofs.Again.{IsLaidLike, LayoutsStay}

whole_like : (x y : Outcome) (next : State → Outcome) (bytes : List ℕ) → IsLaidLike x y → bytes_of (and_then x next) ≡ Whole bytes
    → bytes_of (and_then y next) ≡ Whole bytes
whole_like (Done b u) y next bytes h e = ap (λ (z : Outcome). bytes_of (and_then z next)) h ∙ e
whole_like (Failed b) y next bytes h e = absurd (cc)

pub again_layout : LayoutsStay
again_layout o x y left bits bytes h whole =
    layout_is o y
    ∙ whole_like (lay o (settle o) x 0 Break [] initial) (lay o (settle o) y 0 Break [] initial) (settle_end o) bytes
    (h.laid o 0 [] [] initial [] (alike_same []) refl) (sym (layout_is o x) ∙ whole)
