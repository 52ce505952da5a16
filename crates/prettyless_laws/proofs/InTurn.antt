-- Lines that are laid out one after another are the layout of their documents, one after another.
use Rattle.std.proofs.Common.{◌≡◌, refl, sym, ◌∙◌, ap, subst, ℕ, zero, suc, Bool, true, false, ◌&&◌, if◌then◌else◌, List, [], ◌∷◌, ◌++◌}
use Rattle.std.proofs.Common.{append-nil, inl, inr, length}
use Rattle.prettyless_trees.specs.Built.{append, append_to}
use Rattle.prettyless_model.specs.Options.{ending}
use Rattle.prettyless_model.specs.Spaces.{spaces}
use Rattle.prettyless_model.specs.Tree.{Tree, Nil, Fail, Text, TextWithLen, MultilineText, WeakSpace, HardLine, WeakLine, Append}
use Rattle.prettyless_model.specs.Tree.{LineSuffix, Nest, DedentToRoot, Align, ExpandParent, Flatten, BreakOrFlat, Group, Union}
use Rattle.prettyless_model.specs.Tree.{PartialUnion, OnColumn, OnNesting}
use Rattle.prettyless_model.specs.Choice.{column_holds, nesting_holds}
use Rattle.prettyless_model.specs.Column.{commit, deferred, gap, nested, padding_fits, prospective, start}
use Rattle.prettyless_model.specs.Look.{by_mode}
use Rattle.prettyless_model.specs.Layout.{State, Outcome, Done, Failed, Entry, Breaks, Whole, accept, after_bytes, and_then, break_with}
use Rattle.prettyless_model.specs.Layout.{breaks, bytes_of, end_with, entries, entry, flushed, initial, is_suppressed, lay, lay_each}
use Rattle.prettyless_model.specs.Layout.{lay_ending, lay_text, layout, next_indent, probe, some_pending}
use Rattle.prettyless_model.specs.Levels.{queued, settle, settle_end}
use Rattle.prettyless_model.specs.declared.column.Column.{Column}
use Rattle.prettyless_model.specs.declared.mode.Mode.{Mode}
use Rattle.prettyless_model.specs.declared.mode.Mode.TheVariants.{Break, Flat}
use Rattle.prettyless_model.specs.declared.options.IndentationPolicy.{IndentationPolicy}
use Rattle.prettyless_model.specs.declared.options.IndentationPolicy.TheVariants.{Eager, Deferred}
use Rattle.prettyless_model.specs.declared.options.RenderOptions.{RenderOptions}
use Rattle.prettyless_model.proofs.Levels.{end_fixed, layout_is}
use Rattle.prettyless_model.proofs.Outcomes.{after-nil}
use Rattle.prettyless_laws.proofs.LineEnds.{breaks_read_alike, hard_takes_indent, laid_alike, line_end_hides}
use Rattle.prettyless_laws.specs.InTurn.{at_line, AreLines, EndsAtLine, EndsHard}

-- ---- the flag of a state, which no bytes depend on

-- a state by its parts
abbrev at : Column → List Tree → Bool → State
at c ps v = record { column = c; pending = ps; within = v }

-- outcomes of the same bytes and the same state, but for the flag
abbrev Same : Outcome → Outcome → Type 0
Same (Done b s) (Done c t) = (b ≡ c) × (s.column ≡ t.column) × (s.pending ≡ t.pending)
Same (Done b s) (Failed c) = ⊥
Same (Failed b) (Done c t) = ⊥
Same (Failed b) (Failed c) = b ≡ c

-- from states that are the same but for the flag
abbrev SameFrom : (State → Outcome) → (State → Outcome) → Type 0
SameFrom f g = (c : Column) (ps : List Tree) (v w : Bool) → Same (f (at c ps v)) (g (at c ps w))

same_after : (a b : List ℕ) (x y : Outcome) → a ≡ b → Same x y → Same (after_bytes a x) (after_bytes b y)
same_after a b (Done c s) (Done d t) e h = (λ i. e i ++ h.0 i, h.1, h.2)
same_after a b (Done c s) (Failed d) e h = absurd h
same_after a b (Failed c) (Done d t) e h = absurd h
same_after a b (Failed c) (Failed d) e h = λ i. e i ++ h i

same_then : (x y : Outcome) (f g : State → Outcome) → Same x y → SameFrom f g → Same (and_then x f) (and_then y g)
same_then (Done b s) (Done c t) f g h k =
    let there : s ≡ at t.column t.pending s.within = λ i. at (h.1 i) (h.2 i) s.within in
    same_after b c (f s) (g t) h.0 (subst (λ (u : State). Same (f u) (g t)) (sym there) (k t.column t.pending s.within t.within))
same_then (Done b s) (Failed c) f g h k = absurd h
same_then (Failed b) (Done c t) f g h k = absurd h
same_then (Failed b) (Failed c) f g h k = h

same_either : (t : Bool) (x y z w : Outcome) → Same x z → Same y w → Same (if t then x else y) (if t then z else w)
same_either true x y z w h k = h
same_either false x y z w h k = k

same_accept : (o : RenderOptions) (v w : Bool) (x y z : Outcome) → Same y z → Same (accept o v x y) (accept o w x z)
same_accept o v w (Done b st) y z h =
    same_either (st.within && padding_fits o.width (some_pending st.pending) st.column) (Done b (record st { within = v })) y
    (Done b (record st { within = w })) z (refl, refl, refl) h
same_accept o v w (Failed b) y z h = h

same_text : (o : RenderOptions) (n : ℕ) (s : List ℕ) → SameFrom (lay_text o n s) (lay_text o n s)
same_text o n [] = λ c ps v w. (refl, refl, refl)
same_text o n (b ∷ bs) = λ c ps v w. (refl, refl, refl)

same_ending : (o : RenderOptions) (p : IndentationPolicy) (k : ℕ) → SameFrom (lay_ending o p k) (lay_ending o p k)
same_ending o Eager k = λ c ps v w. (refl, refl, refl)
same_ending o Deferred k = λ c ps v w. (refl, refl, refl)

-- a meaning of a break that ignores it
abbrev IgnoresFlag : Breaks → Type 0
IgnoresFlag brk = (d : Tree) (i : ℕ) (m : Mode) (rest : List Entry) → SameFrom (brk d i m rest) (brk d i m rest)

same_lay : (o : RenderOptions) (brk : Breaks) → IgnoresFlag brk → (d : Tree) (i : ℕ) (m : Mode) (rest : List Entry) (c : Column)
    (ps : List Tree) (v w : Bool) → Same (lay o brk d i m rest (at c ps v)) (lay o brk d i m rest (at c ps w))
unfolding lay
same_lay o brk k Nil i m rest c ps v w = (refl, refl, refl)
same_lay o brk k Fail i m rest c ps v w = refl
same_lay o brk k (Text s) i m rest c ps v w = same_text o (length s) s c ps v w
same_lay o brk k (TextWithLen n s) i m rest c ps v w = same_text o n s c ps v w
same_lay o brk k (MultilineText s) i Break rest c ps v w = (refl, refl, refl)
same_lay o brk k (MultilineText s) i Flat rest c ps v w = refl
same_lay o brk k WeakSpace i m rest c ps v w = (refl, refl, refl)
same_lay o brk k HardLine i Break rest c ps v w = k HardLine i Break rest c ps v w
same_lay o brk k HardLine i Flat rest c ps v w = refl
same_lay o brk k WeakLine i m rest c ps v w = k WeakLine i m rest c ps v w
same_lay o brk k (Append x y) i m rest c ps v w =
    same_then (lay o brk x i m (entry i y ∷ rest) (at c ps v)) (lay o brk x i m (entry i y ∷ rest) (at c ps w))
    (λ u. lay o brk y i m rest u) (λ u. lay o brk y i m rest u)
    (same_lay o brk k x i m (entry i y ∷ rest) c ps v w) (λ d qs p q. same_lay o brk k y i m rest d qs p q)
same_lay o brk k (LineSuffix d) i m rest c ps v w = (refl, refl, refl)
same_lay o brk k (Nest n d) i m rest c ps v w = same_lay o brk k d (nested i n) m rest c ps v w
same_lay o brk k (DedentToRoot d) i m rest c ps v w = same_lay o brk k d 0 m rest c ps v w
same_lay o brk k (Align d) i m rest c ps v w = same_lay o brk k d (prospective c) m rest c ps v w
same_lay o brk k ExpandParent i m rest c ps v w = (refl, refl, refl)
same_lay o brk k (Flatten d) i m rest c ps v w = same_lay o brk k d i Flat rest c ps v w
same_lay o brk k (BreakOrFlat x y) i Break rest c ps v w = same_lay o brk k x i Break rest c ps v w
same_lay o brk k (BreakOrFlat x y) i Flat rest c ps v w = same_lay o brk k y i Flat rest c ps v w
same_lay o brk k (Group d) i m rest c ps v w =
    same_lay o brk k d i (by_mode m (if probe o d i Flat rest (at c ps v) then Flat else Break) Flat) rest c ps v w
same_lay o brk k (Union x y) i Break rest c ps v w =
    same_accept o v w (lay o brk x i Break rest (at c ps true)) (lay o brk y i Break rest (at c ps v)) (lay o brk y i Break rest (at c ps w))
    (same_lay o brk k y i Break rest c ps v w)
same_lay o brk k (Union x y) i Flat rest c ps v w = same_lay o brk k x i Flat rest c ps v w
same_lay o brk k (PartialUnion x y) i Break rest c ps v w =
    same_either (probe o x i Break rest (at c ps v)) (lay o brk x i Break rest (at c ps v)) (lay o brk y i Break rest (at c ps v))
    (lay o brk x i Break rest (at c ps w)) (lay o brk y i Break rest (at c ps w))
    (same_lay o brk k x i Break rest c ps v w) (same_lay o brk k y i Break rest c ps v w)
same_lay o brk k (PartialUnion x y) i Flat rest c ps v w = same_lay o brk k x i Flat rest c ps v w
same_lay o brk k (OnColumn test x y) i m rest c ps v w =
    same_either (column_holds test (prospective c) i) (lay o brk x i m rest (at c ps v)) (lay o brk y i m rest (at c ps v))
    (lay o brk x i m rest (at c ps w)) (lay o brk y i m rest (at c ps w))
    (same_lay o brk k x i m rest c ps v w) (same_lay o brk k y i m rest c ps v w)
same_lay o brk k (OnNesting test x y) i m rest c ps v w =
    same_either (nesting_holds test i) (lay o brk x i m rest (at c ps v)) (lay o brk y i m rest (at c ps v))
    (lay o brk x i m rest (at c ps w)) (lay o brk y i m rest (at c ps w))
    (same_lay o brk k x i m rest c ps v w) (same_lay o brk k y i m rest c ps v w)

same_each : (o : RenderOptions) (brk : Breaks) → IgnoresFlag brk → (ds : List Tree) (i : ℕ) (m : Mode) (rest : List Entry) (c : Column)
    (ps : List Tree) (v w : Bool) → Same (lay_each o brk ds i m rest (at c ps v)) (lay_each o brk ds i m rest (at c ps w))
unfolding lay_each
same_each o brk k [] i m rest c ps v w = (refl, refl, refl)
same_each o brk k (d ∷ ds) i m rest c ps v w =
    same_then (lay o brk d i m (entries i ds ++ rest) (at c ps v)) (lay o brk d i m (entries i ds ++ rest) (at c ps w))
    (λ u. lay_each o brk ds i m rest u) (λ u. lay_each o brk ds i m rest u)
    (same_lay o brk k d i m (entries i ds ++ rest) c ps v w) (λ e qs p q. same_each o brk k ds i m rest e qs p q)

same_break : (o : RenderOptions) (brk : Breaks) → IgnoresFlag brk → (qs : List Tree) (d : Tree) (i : ℕ) (m : Mode) (rest : List Entry)
    (c : Column) (ps : List Tree) (v w : Bool)
    → Same (break_with o brk qs d i m rest (at c ps v)) (break_with o brk qs d i m rest (at c ps w))
same_break o brk k [] d i m rest c ps v w =
    same_either (is_suppressed d c) (Done [] (at c ps v)) (lay_ending o o.indentation_policy (next_indent i rest) (at c ps v))
    (Done [] (at c ps w)) (lay_ending o o.indentation_policy (next_indent i rest) (at c ps w)) (refl, refl, refl)
    (same_ending o o.indentation_policy (next_indent i rest) c ps v w)
same_break o brk k (q ∷ qs) d i m rest c ps v w =
    same_after (spaces (gap c)) (spaces (gap c)) _ _ refl
    (same_then (lay_each o brk (q ∷ qs) i m (entry i d ∷ rest) (flushed o (at c ps v)))
    (lay_each o brk (q ∷ qs) i m (entry i d ∷ rest) (flushed o (at c ps w))) (brk d i m rest) (brk d i m rest)
    (same_each o brk k (q ∷ qs) i m (entry i d ∷ rest) (commit 0 c) [] (v && padding_fits o.width true c)
    (w && padding_fits o.width true c))
    (k d i m rest))

breaks_ignore : (o : RenderOptions) (n : ℕ) → IgnoresFlag (breaks o n)
unfolding breaks
breaks_ignore o zero = λ d i m rest c ps v w. refl
breaks_ignore o (suc n) = λ d i m rest c ps v w. same_break o (breaks o n) (breaks_ignore o n) ps d i m rest c ps v w

settle_ignores : (o : RenderOptions) → IgnoresFlag (settle o)
unfolding settle
settle_ignores o = λ d i m rest c ps v w. breaks_ignore o (suc (queued ps)) d i m rest c ps v w

-- ---- after a hard line

-- at the beginning of a line, with nothing pending
abbrev IsAtLine : State → Type 0
IsAtLine u = (u.column ≡ start) × (u.pending ≡ [])

after_done : (b : List ℕ) (x : Outcome) (c : List ℕ) (u : State) → after_bytes b x ≡ Done c u → (e : List ℕ) × (x ≡ Done e u)
after_done b (Done e s) c u h = let same : s ≡ u = cc in (e, ap (Done e) same)
after_done b (Failed e) c u h = absurd (cc)

then_done : (x : Outcome) (f : State → Outcome) (c : List ℕ) (u : State) → and_then x f ≡ Done c u
    → (v : State) × (e : List ℕ) × (f v ≡ Done e u)
then_done (Done b v) f c u h = let rest = after_done b (f v) c u h in (v, rest.0, rest.1)
then_done (Failed b) f c u h = absurd (cc)

module _ (o : RenderOptions) (later : o.indentation_policy ≡ Deferred) where
  hard_with : (brk : Breaks) (rest : List Entry) → next_indent 0 rest ≡ 0
      → ((u : State) (c : List ℕ) (t : State) → brk HardLine 0 Break rest u ≡ Done c t → IsAtLine t)
      → (ps : List Tree) (st : State) → st.pending ≡ ps → (c : List ℕ) (t : State)
      → break_with o brk ps HardLine 0 Break rest st ≡ Done c t → IsAtLine t
  hard_with brk rest none again [] st empty c t h =
      let put : lay_ending o o.indentation_policy (next_indent 0 rest) st ≡ lay_ending o Deferred 0 st = λ j. lay_ending o (later j) (none j) st in
      let e : Done (ending o.line_ending) (record st { column = deferred 0 }) ≡ Done c t = sym put ∙ h in
      let same : record st { column = deferred 0 } ≡ t = cc in
      (ap (λ (s : State). s.column) (sym same), ap (λ (s : State). s.pending) (sym same) ∙ empty)
  hard_with brk rest none again (p ∷ ps) st empty c t h =
      let first = after_done (spaces (gap st.column))
      (and_then (lay_each o brk (p ∷ ps) 0 Break (entry 0 HardLine ∷ rest) (flushed o st)) (brk HardLine 0 Break rest)) c t h in
      let next = then_done (lay_each o brk (p ∷ ps) 0 Break (entry 0 HardLine ∷ rest) (flushed o st)) (brk HardLine 0 Break rest) first.0 t
      first.1 in
      again next.0 next.1 t next.2

  hard_breaks : (n : ℕ) (rest : List Entry) → next_indent 0 rest ≡ 0 → (st : State) (c : List ℕ) (t : State)
      → breaks o n HardLine 0 Break rest st ≡ Done c t → IsAtLine t
  unfolding breaks
  hard_breaks zero rest none st c t h = absurd (cc)
  hard_breaks (suc n) rest none st c t h =
      hard_with (breaks o n) rest none (λ u b s e. hard_breaks n rest none u b s e) st.pending st refl c t h

  hard_settles : (rest : List Entry) → next_indent 0 rest ≡ 0 → (st : State) (c : List ℕ) (t : State)
      → settle o HardLine 0 Break rest st ≡ Done c t → IsAtLine t
  unfolding settle
  hard_settles rest none st c t h = hard_breaks (suc (queued st.pending)) rest none st c t h

  -- a document that ends with one
  hard_lays : (d : Tree) → EndsHard d → (rest : List Entry) → next_indent 0 rest ≡ 0 → (st : State) (c : List ℕ) (t : State)
      → lay o (settle o) d 0 Break rest st ≡ Done c t → IsAtLine t
  unfolding lay
  hard_lays d (inl e) rest none st c t h =
      hard_settles rest none st c t (ap (λ (x : Tree). lay o (settle o) x 0 Break rest st) (sym e) ∙ h)
  hard_lays d (inr (x, e)) rest none st c t h =
      let next = then_done (lay o (settle o) x 0 Break (entry 0 HardLine ∷ rest) st) (λ u. lay o (settle o) HardLine 0 Break rest u) c t
      (ap (λ (y : Tree). lay o (settle o) y 0 Break rest st) (sym e) ∙ h) in
      hard_settles rest none next.0 next.1 t next.2

-- ---- before anything at indent 0

then_each : (x : Outcome) (f g : State → Outcome) → ((u : State) → f u ≡ g u) → and_then x f ≡ and_then x g
then_each (Done b st) f g h = ap (after_bytes b) (h st)
then_each (Failed b) f g h = refl

hard_before : (o : RenderOptions) (rest : List Entry) → next_indent 0 rest ≡ 0 → (st : State)
    → settle o HardLine 0 Break rest st ≡ settle o HardLine 0 Break [] st
unfolding settle
hard_before o rest none st = hard_takes_indent o (suc (queued st.pending)) 0 Break rest [] st none

before_rest : (o : RenderOptions) (d : Tree) → EndsHard d → (rest : List Entry) → next_indent 0 rest ≡ 0 → (st : State)
    → lay o (settle o) d 0 Break rest st ≡ lay o (settle o) d 0 Break [] st
unfolding lay
before_rest o d (inl e) rest none st =
    ap (λ (x : Tree). lay o (settle o) x 0 Break rest st) e ∙ hard_before o rest none st
    ∙ ap (λ (x : Tree). lay o (settle o) x 0 Break [] st) (sym e)
before_rest o d (inr (x, e)) rest none st =
    ap (λ (y : Tree). lay o (settle o) y 0 Break rest st) e
    ∙ ap (λ (y : Outcome). and_then y (λ u. lay o (settle o) HardLine 0 Break rest u))
    (laid_alike o (settle o) x 0 Break (entry 0 HardLine ∷ rest) (entry 0 HardLine ∷ []) st (breaks_read_alike o).1
    (line_end_hides 0 HardLine rest [] tt))
    ∙ then_each (lay o (settle o) x 0 Break (entry 0 HardLine ∷ []) st) (λ u. lay o (settle o) HardLine 0 Break rest u)
    (λ u. lay o (settle o) HardLine 0 Break [] u) (hard_before o rest none)
    ∙ ap (λ (y : Tree). lay o (settle o) y 0 Break [] st) (sym e)

-- ---- lines

-- nothing is left to lay at the end
ended_at : (o : RenderOptions) (t : State) → t.pending ≡ [] → settle_end o t ≡ Done [] t
ended_at o t none = end_fixed o t ∙ ap (λ (ps : List Tree). end_with o (settle o) (settle_end o) ps t) none

-- the bytes of a whole layout, which ends at the beginning of a line
whole_line : (o : RenderOptions) (c : List ℕ) (x : Outcome) → bytes_of (and_then x (settle_end o)) ≡ Whole c
    → ((b : List ℕ) (t : State) → x ≡ Done b t → IsAtLine t) → EndsAtLine x c
whole_line o c (Done b t) h at_end =
    let there = at_end b t refl in
    let e : Whole (b ++ []) ≡ Whole c = sym (ap (λ (y : Outcome). bytes_of (after_bytes b y)) (ended_at o t there.1)) ∙ h in
    let same : b ++ [] ≡ c = cc in
    let bytes : b ≡ c = sym (append-nil b) ∙ same in
    (t.within, λ i. Done (bytes i) (at (there.0 i) (there.1 i) t.within))
whole_line o c (Failed b) h at_end = absurd (cc)

same_line : (c : List ℕ) (v : Bool) (y : Outcome) → Same (Done c (at_line v)) y → EndsAtLine y c
same_line c v (Done d t) h = (t.within, λ i. Done (sym h.0 i) (at (sym h.1 i) (sym h.2 i) t.within))
same_line c v (Failed d) h = absurd h

-- a document that ends with a hard line is laid from the beginning of any line as from the first
from_line : (o : RenderOptions) → o.indentation_policy ≡ Deferred → (d : Tree) → EndsHard d → (c : List ℕ) → layout o d ≡ Whole c
    → (rest : List Entry) → next_indent 0 rest ≡ 0 → (w : Bool) → EndsAtLine (lay o (settle o) d 0 Break rest (at_line w)) c
from_line o later d hard c h rest none w =
    let first : EndsAtLine (lay o (settle o) d 0 Break [] initial) c =
    whole_line o c (lay o (settle o) d 0 Break [] initial) (sym (layout_is o d) ∙ h)
    (λ b t e. hard_lays o later d hard [] refl initial b t e) in
    let same : Same (lay o (settle o) d 0 Break [] initial) (lay o (settle o) d 0 Break [] (at_line w)) =
    same_lay o (settle o) (settle_ignores o) d 0 Break [] start [] true w in
    subst (λ (x : Outcome). EndsAtLine x c) (sym (before_rest o d hard rest none (at_line w)))
    (same_line c first.0 (lay o (settle o) d 0 Break [] (at_line w))
    (subst (λ (x : Outcome). Same x (lay o (settle o) d 0 Break [] (at_line w))) first.1 same))

appended : (d q : Tree) → EndsHard q → append_to d q ≡ Append d q
appended d q (inl e) = ap (append_to d) e ∙ sym (ap (Append d) e)
appended d q (inr (x, e)) = ap (append_to d) e ∙ sym (ap (Append d) e)

lay_append : (o : RenderOptions) (d q : Tree) → EndsHard q → (rest : List Entry) (st : State)
    → lay o (settle o) (append d q) 0 Break rest st
    ≡ and_then (lay o (settle o) d 0 Break (entry 0 q ∷ rest) st) (λ u. lay o (settle o) q 0 Break rest u)
unfolding lay
lay_append o Nil q hard rest st = sym (after-nil (lay o (settle o) q 0 Break rest st))
lay_append o d q hard rest st = ap (λ (x : Tree). lay o (settle o) x 0 Break rest st) (appended d q hard)

-- no document has no lines
pub lines_none : (o : RenderOptions) → AreLines o Nil []
unfolding lay
lines_none o = λ rest none. (true, refl)

-- lines, and more
pub lines_more : (o : RenderOptions) → o.indentation_policy ≡ Deferred → (d q : Tree) (b c : List ℕ) → AreLines o d b → EndsHard q
    → layout o q ≡ Whole c → AreLines o (append d q) (b ++ c)
lines_more o later d q b c lines hard h = λ rest none.
    let first = lines (entry 0 q ∷ rest) refl in
    let next = from_line o later q hard c h rest none first.0 in (
      next.0,
      lay_append o d q hard rest initial
          ∙ ap (λ (x : Outcome). and_then x (λ u. lay o (settle o) q 0 Break rest u)) first.1 ∙ ap (after_bytes b) next.1,
    )

-- all lines are the layout
pub lines_layout : (o : RenderOptions) (d : Tree) (b : List ℕ) → AreLines o d b → layout o d ≡ Whole b
lines_layout o d b lines =
    let all = lines [] refl in
    layout_is o d ∙ ap (λ (x : Outcome). bytes_of (and_then x (settle_end o))) all.1
    ∙ ap (λ (x : Outcome). bytes_of (after_bytes b x)) (ended_at o (at_line all.0) refl) ∙ ap Whole (append-nil b)

-- a document with a hard line after it
pub ends_hard : (x : Tree) → EndsHard (append x HardLine)
ends_hard Nil = inl refl
ends_hard x = inr (x, refl)
