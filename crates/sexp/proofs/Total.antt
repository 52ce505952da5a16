-- A document of numbers and lists has a whole layout: no line break of it is ever laid flat.
use Rattle.std.proofs.Common.{◌≡◌, ℕ, suc, ◌+◌, pos, List, [], ◌∷◌, Bool, true, false, cond, refl, length, add-one}
use Rattle.prettyless.specs.Tree as t
use Rattle.prettyless.specs.Tree.{Tree, size}
use Rattle.prettyless.specs.Built.{append, append_to, nest, group}
use Rattle.prettyless.specs.Lines.{line}
use Rattle.prettyless.specs.Column.{nested}
use Rattle.prettyless.specs.Layout.{State, Outcome, Bytes, Done, Failed, Entry, Breaks, Whole, Cut, after_bytes, and_then, entry, initial}
use Rattle.prettyless.specs.Layout.{lay, lay_text, breaks, finish, layout_by, layout, probe, lay_ending, next_indent, bytes_of}
use Rattle.prettyless_model.specs.declared.options.RenderOptions.{RenderOptions}
use Rattle.prettyless_model.specs.declared.options.IndentationPolicy.{IndentationPolicy}
use Rattle.prettyless_model.specs.declared.options.IndentationPolicy.TheVariants.{Eager, Deferred}
use Rattle.prettyless_model.specs.declared.mode.Mode.{Mode}
use Rattle.prettyless_model.specs.declared.mode.Mode.TheVariants.{Break, Flat}
use Rattle.sexp.specs.Value.{SexpValue, Values, number, list, none, first}
use Rattle.sexp.specs.Documents.{sexp_document, interspersed, followed_by}
use Rattle.sexp.specs.Runs.{layout_of_value}

whole_or_cut : (a b : List ℕ) → Whole a ≡ Cut b → ⊥
whole_or_cut a b e = cc

-- ---- trees that may be laid

-- laid flat it has no line break
abbrev IsFlatSafe : Tree → Type 0
IsFlatSafe t.Nil = Unit {0}
IsFlatSafe (t.Text s) = Unit {0}
IsFlatSafe (t.TextWithLen w s) = Unit {0}
IsFlatSafe t.HardLine = ⊥
IsFlatSafe (t.Append l r) = IsFlatSafe l × IsFlatSafe r
IsFlatSafe (t.Nest k d) = IsFlatSafe d
IsFlatSafe (t.BreakOrFlat b f) = IsFlatSafe f
IsFlatSafe (t.Group d) = IsFlatSafe d
IsFlatSafe _ = ⊥

-- laid broken it has no line break in a flat part
abbrev IsBreakSafe : Tree → Type 0
IsBreakSafe t.Nil = Unit {0}
IsBreakSafe (t.Text s) = Unit {0}
IsBreakSafe (t.TextWithLen w s) = Unit {0}
IsBreakSafe t.HardLine = Unit {0}
IsBreakSafe (t.Append l r) = IsBreakSafe l × IsBreakSafe r
IsBreakSafe (t.Nest k d) = IsBreakSafe d
IsBreakSafe (t.BreakOrFlat b f) = IsBreakSafe b
IsBreakSafe (t.Group d) = IsFlatSafe d × IsBreakSafe d
IsBreakSafe _ = ⊥

abbrev IsSafe : Mode → Tree → Type 0
IsSafe Break d = IsBreakSafe d
IsSafe Flat d = IsFlatSafe d

-- ---- their layouts

-- done, and nothing waits for the end of the line
abbrev IsDone : Outcome → Type 0
IsDone (Done b st) = st.pending ≡ []
IsDone (Failed b) = ⊥

after_done : (b : List ℕ) (x : Outcome) → IsDone x → IsDone (after_bytes b x)
after_done b (Done c st) h = h
after_done b (Failed c) h = h

and_then_done : (x : Outcome) (next : State → Outcome) → IsDone x → ((st : State) → st.pending ≡ [] → IsDone (next st))
    → IsDone (and_then x next)
and_then_done (Done b st) next h k = after_done b (next st) (k st h)
and_then_done (Failed b) next h k = absurd h

text_done : (o : RenderOptions) (w : ℕ) (s : List ℕ) (st : State) → st.pending ≡ [] → IsDone (lay_text o w s st)
text_done o w [] st h = h
text_done o w (b ∷ bs) st h = h

-- a hard line is laid where nothing waits
abbrev EndsLines : Breaks → Type 0
EndsLines brk = (i : ℕ) (rest : List Entry) (st : State) → st.pending ≡ [] → IsDone (brk t.HardLine i Break rest st)

module _ (o : RenderOptions) (brk : Breaks) (ends : EndsLines brk) where
  lay_done : (d : Tree) (i : ℕ) (m : Mode) (rest : List Entry) (st : State) → st.pending ≡ [] → IsSafe m d
      → IsDone (lay o brk d i m rest st)
  unfolding lay
  lay_done t.Nil i m rest st h s = h
  lay_done (t.Text x) i m rest st h s = text_done o (length x) x st h
  lay_done (t.TextWithLen w x) i m rest st h s = text_done o w x st h
  lay_done t.HardLine i Break rest st h s = ends i rest st h
  lay_done t.HardLine i Flat rest st h s = absurd s
  lay_done (t.Append l r) i Break rest st h s = and_then_done (lay o brk l i Break (entry i r ∷ rest) st) (λ u. lay o brk r i Break rest u)
      (lay_done l i Break (entry i r ∷ rest) st h s.0) (λ u k. lay_done r i Break rest u k s.1)
  lay_done (t.Append l r) i Flat rest st h s = and_then_done (lay o brk l i Flat (entry i r ∷ rest) st) (λ u. lay o brk r i Flat rest u)
      (lay_done l i Flat (entry i r ∷ rest) st h s.0) (λ u k. lay_done r i Flat rest u k s.1)
  lay_done (t.Nest k d) i Break rest st h s = lay_done d (nested i k) Break rest st h s
  lay_done (t.Nest k d) i Flat rest st h s = lay_done d (nested i k) Flat rest st h s
  lay_done (t.BreakOrFlat b f) i Break rest st h s = lay_done b i Break rest st h s
  lay_done (t.BreakOrFlat b f) i Flat rest st h s = lay_done f i Flat rest st h s
  lay_done (t.Group d) i Break rest st h s =
      elim (probe o d i Flat rest st) as (λ (b : Bool). IsDone (lay o brk d i (cond b Flat Break) rest st)) [
        | true ↦ lay_done d i Flat rest st h s.0
        | false ↦ lay_done d i Break rest st h s.1
      ]
  lay_done (t.Group d) i Flat rest st h s = lay_done d i Flat rest st h s
  lay_done _ i Break rest st h s = absurd s
  lay_done _ i Flat rest st h s = absurd s

ending_done : (o : RenderOptions) (p : IndentationPolicy) (k : ℕ) (st : State) → st.pending ≡ [] → IsDone (lay_ending o p k st)
ending_done o Eager k st h = h
ending_done o Deferred k st h = h

breaks_end_lines : (o : RenderOptions) (n : ℕ) → EndsLines (breaks o (suc n))
unfolding breaks
breaks_end_lines o n i rest st h = rw h (ending_done o o.indentation_policy (next_indent i rest) (record st { pending = [] }) refl)

finish_done : (o : RenderOptions) (brk : Breaks) (n : ℕ) (st : State) → st.pending ≡ [] → IsDone (finish o brk (suc n) st)
unfolding finish
finish_done o brk n st h = rw h refl

not_cut : (x : Outcome) (bytes : List ℕ) → IsDone x → bytes_of x ≡ Cut bytes → ⊥
not_cut (Done b st) bytes h e = whole_or_cut b bytes e
not_cut (Failed b) bytes h e = h

layout_by_done : (o : RenderOptions) (n : ℕ) (d : Tree) → IsBreakSafe d → IsDone (layout_by o (suc n) d)
unfolding layout_by
layout_by_done o n d safe =
    let brk = breaks o (suc n) in
    and_then_done (lay o brk d 0 Break [] initial) (λ st. finish o brk (suc n) st)
    (lay_done o brk (breaks_end_lines o n) d 0 Break [] initial refl safe) (finish_done o brk n)

safe_is_whole : (o : RenderOptions) (d : Tree) (bytes : List ℕ) → IsBreakSafe d → layout o d ≡ Cut bytes → ⊥
unfolding layout
safe_is_whole o d bytes safe e = not_cut (layout_by o (size d + 1) d) bytes (rw add-one (layout_by_done o (size d) d safe)) e

-- ---- the documents of values

-- laid flat or broken
abbrev IsBothSafe : Tree → Type 0
IsBothSafe d = IsFlatSafe d × IsBreakSafe d

append_to_safe : (x y : Tree) → IsBothSafe x → IsBothSafe y → IsBothSafe (append_to x y)
append_to_safe x t.Nil a b = a
append_to_safe x (t.Text s) a b = ((a.0, b.0), (a.1, b.1))
append_to_safe x (t.TextWithLen w s) a b = ((a.0, b.0), (a.1, b.1))
append_to_safe x t.HardLine a b = absurd b.0
append_to_safe x (t.Append l r) a b = ((a.0, b.0), (a.1, b.1))
append_to_safe x (t.Nest k d) a b = ((a.0, b.0), (a.1, b.1))
append_to_safe x (t.BreakOrFlat l r) a b = ((a.0, b.0), (a.1, b.1))
append_to_safe x (t.Group d) a b = ((a.0, b.0), (a.1, b.1))
append_to_safe x _ a b = absurd b.0

append_safe : (x y : Tree) → IsBothSafe x → IsBothSafe y → IsBothSafe (append x y)
append_safe t.Nil y a b = b
append_safe (t.Text s) y a b = append_to_safe (t.Text s) y a b
append_safe (t.TextWithLen w s) y a b = append_to_safe (t.TextWithLen w s) y a b
append_safe t.HardLine y a b = absurd a.0
append_safe (t.Append l r) y a b = append_to_safe (t.Append l r) y a b
append_safe (t.Nest k d) y a b = append_to_safe (t.Nest k d) y a b
append_safe (t.BreakOrFlat l r) y a b = append_to_safe (t.BreakOrFlat l r) y a b
append_safe (t.Group d) y a b = append_to_safe (t.Group d) y a b
append_safe _ y a b = absurd a.0

nest_safe : (x : Tree) → IsBothSafe x → IsBothSafe (nest (pos 1) x)
nest_safe t.Nil a = a
nest_safe (t.Text s) a = a
nest_safe (t.TextWithLen w s) a = a
nest_safe t.HardLine a = a
nest_safe (t.Append l r) a = a
nest_safe (t.Nest k d) a = a
nest_safe (t.BreakOrFlat l r) a = a
nest_safe (t.Group d) a = a
nest_safe _ a = absurd a.0

group_safe : (x : Tree) → IsBothSafe x → IsBothSafe (group x)
group_safe t.Nil a = a
group_safe (t.Text s) a = a
group_safe (t.TextWithLen w s) a = a
group_safe t.HardLine a = (a.0, a)
group_safe (t.Append l r) a = (a.0, a)
group_safe (t.Nest k d) a = (a.0, a)
group_safe (t.BreakOrFlat l r) a = (a.0, a)
group_safe (t.Group d) a = a
group_safe _ a = absurd a.0

mutual
  document_safe : (v : SexpValue) → IsBothSafe (sexp_document v)
  document_safe (number n) = (tt, tt)
  document_safe (list vs) =
      let inner = group (nest (pos 1) (interspersed vs)) in
      let front = append_safe (t.Text (40 ∷ [])) inner (tt, tt)
      (group_safe (nest (pos 1) (interspersed vs)) (nest_safe (interspersed vs) (interspersed_safe vs))) in
      append_safe (append (t.Text (40 ∷ [])) inner) (t.Text (41 ∷ [])) front (tt, tt)

  interspersed_safe : (vs : Values) → IsBothSafe (interspersed vs)
  interspersed_safe none = (tt, tt)
  interspersed_safe (first v vs) = followed_safe (sexp_document v) (document_safe v) vs

  followed_safe : (x : Tree) → IsBothSafe x → (vs : Values) → IsBothSafe (followed_by x vs)
  followed_safe x a none = a
  followed_safe x a (first v vs) =
      followed_safe (append (append x line) (sexp_document v))
      (append_safe (append x line) (sexp_document v) (append_safe x line a (tt, tt)) (document_safe v)) vs

-- the layout of a value is not cut
pub layout_not_cut : (o : RenderOptions) (v : SexpValue) (bytes : List ℕ) → layout_of_value o v ≡ Cut bytes → ⊥
layout_not_cut o v bytes e = safe_is_whole o (sexp_document v) bytes (document_safe v).1 e

not_cut_is_whole : (y : Bytes) → ((bytes : List ℕ) → y ≡ Cut bytes → ⊥) → (bytes : List ℕ) × (y ≡ Whole bytes)
not_cut_is_whole (Whole bytes) h = (bytes, refl)
not_cut_is_whole (Cut bytes) h = absurd (h bytes refl)

-- but whole
pub layout_whole : (o : RenderOptions) (v : SexpValue) → (bytes : List ℕ) × (layout_of_value o v ≡ Whole bytes)
layout_whole o v = not_cut_is_whole (layout_of_value o v) (layout_not_cut o v)
