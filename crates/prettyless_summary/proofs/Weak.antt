-- A weak line after a summary.
use Rattle.std.proofs.Common.{◌≡◌, ℕ, Bool, true, false, ◌||◌, Some, arith, sym, ◌∙◌}
use Rattle.prettyless_model.specs.Look.{Look, GoesOn, look_end, look_then}
use Rattle.prettyless_model.specs.declared.column.Column.{Column}
use Rattle.prettyless_model.specs.declared.mode.Mode.{Mode}
use Rattle.prettyless_model.proofs.Looks.{look-each, look-then-then}
use Rattle.prettyless_summary.specs.Summary.{ContinuesLook, look_ink, look_out, look_rest, look_weak, mode_of, after_spaces}
use Rattle.prettyless_summary.specs.declared.summary.Summary.{Summary}
use Rattle.prettyless_summary.specs.declared.summary.End.{End}

-- what a summary has after its weak line may say what a look after the whole summary says
pub rest_continues : (s r : Summary) (f : ℕ → Column → Bool → Look) → r.lead ≡ s.lead → r.weak ≡ s.weak
    → ((width : ℕ) (c : Column) (p : Bool) → look_rest width r c p ≡ look_then (look_rest width s c p) (f width)) → ContinuesLook s f r
rest_continues s r f lead weak h width c p =
    rw (lead, weak) (look-each (look_weak width (mode_of s.weak) (after_spaces s.lead c) p) (look_rest width r)
    (λ e q. look_then (look_rest width s e q) (f width)) (h width)
    ∙ sym (look-then-then (look_weak width (mode_of s.weak) (after_spaces s.lead c) p) (look_rest width s) (f width)))

-- a weak line after ink or a line suffix ends the line
pub rest_ends : (width : ℕ) (ink suffix : Bool) (inner trail : ℕ) (e : End) (m : Mode) (c : Column) (p : Bool)
    → ((d : Column) (q : Bool) → look_out width e d q ≡ look_end width m d q) → ink || suffix ≡ true
    → look_then (look_ink width ink inner trail c p) (λ d q. look_out width e d (suffix || q))
    ≡ look_then (look_then (look_ink width ink inner trail c p) (λ d q. GoesOn d (suffix || q))) (look_weak width (Some m))
rest_ends width true true inner trail e m c p same some = grind arith
rest_ends width true false inner trail e m c p same some = grind arith
rest_ends width false true inner trail e m c p same some = grind arith
rest_ends width false false inner trail e m c p same some = cc
