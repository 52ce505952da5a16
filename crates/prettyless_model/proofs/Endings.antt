-- The end of a layout: where it does not fail, nothing is pending after it.
use Rattle.std.proofs.Common.{◌≡◌, ℕ, zero, suc, List, [], ◌∷◌, refl}
use Rattle.prettyless_model.specs.Spaces.{spaces}
use Rattle.prettyless_model.specs.declared.options.RenderOptions.{RenderOptions}
use Rattle.prettyless_model.specs.Tree.{Tree}
use Rattle.prettyless_model.specs.Column.{gap}
use Rattle.prettyless_model.specs.Layout.{State, Outcome, Done, Failed, Breaks, after_bytes, and_then, lay, lay_each, flushed, end_with}
use Rattle.prettyless_model.specs.Layout.{breaks, finish, layout_by, initial}
use Rattle.prettyless_model.specs.declared.mode.Mode.TheVariants.{Break}

-- no document is pending after an outcome
abbrev pub NothingPending : Outcome → Type 0
NothingPending (Done b st) = st.pending ≡ []
NothingPending (Failed b) = Unit {0}

none-after : (b : List ℕ) (o : Outcome) → NothingPending o → NothingPending (after_bytes b o)
none-after b (Done c st) h = h
none-after b (Failed c) h = tt

none-then : (o : Outcome) (f : State → Outcome) → ((u : State) → NothingPending (f u)) → NothingPending (and_then o f)
none-then (Done b st) f g = none-after b (f st) (g st)
none-then (Failed b) f g = tt

end_ends : (o : RenderOptions) (brk : Breaks) (again : State → Outcome) → ((u : State) → NothingPending (again u))
    → (ps : List Tree) (st : State) → st.pending ≡ ps → NothingPending (end_with o brk again ps st)
end_ends o brk again g [] st e = e
end_ends o brk again g (p ∷ ps) st e =
    none-after (spaces (gap st.column)) (and_then (lay_each o brk (p ∷ ps) 0 Break [] (flushed o st)) again)
    (none-then (lay_each o brk (p ∷ ps) 0 Break [] (flushed o st)) again g)

finish_ends : (o : RenderOptions) (brk : Breaks) (n : ℕ) (st : State) → NothingPending (finish o brk n st)
unfolding finish
finish_ends o brk zero st = tt
finish_ends o brk (suc n) st = end_ends o brk (finish o brk n) (finish_ends o brk n) st.pending st refl

pub layout_by_ends : (o : RenderOptions) (n : ℕ) (d : Tree) → NothingPending (layout_by o n d)
unfolding layout_by
layout_by_ends o n d = none-then (lay o (breaks o n) d 0 Break [] initial) (finish o (breaks o n) n) (finish_ends o (breaks o n) n)
