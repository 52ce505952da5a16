-- Layouts are traces written out: where an indent is pending in the column, it is pending for the pieces.
use Rattle.std.proofs.Common.{◌≡◌, ℕ, zero, suc, ◌+◌, List, [], ◌∷◌, ◌++◌, length, refl, ap, ap₂, sym, subst, ◌∙◌, append_assoc, append-nil}
use Rattle.std.proofs.Common.{Bool, true, false, ◌&&◌, if◌then◌else◌}
use Rattle.prettyless_model.specs.Options.{ending}
use Rattle.prettyless_model.specs.Spaces.{spaces}
use Rattle.prettyless_model.specs.declared.options.RenderOptions.{RenderOptions}
use Rattle.prettyless_model.specs.declared.options.IndentationPolicy.{IndentationPolicy}
use Rattle.prettyless_model.specs.declared.options.IndentationPolicy.TheVariants.{Eager, Deferred}
use Rattle.prettyless_model.specs.Tree.{Tree, Fail, Text, TextWithLen, MultilineText, WeakSpace, HardLine, WeakLine, Append, Indented}
use Rattle.prettyless_model.specs.Tree.{Flatten, BreakOrFlat, Group, Union, PartialUnion, Chosen, size}
use Rattle.prettyless_model.specs.Metrics.{metrics}
use Rattle.prettyless_model.specs.Choice.{choice_holds}
use Rattle.prettyless_model.specs.Column.{gap, prospective, padding_fits}
use Rattle.prettyless_model.specs.Indent.{indent_by}
use Rattle.prettyless_model.specs.Layout.{State, Outcome, Done, Failed, Entry, Breaks, Whole, Cut, after_bytes, and_then, lay, lay_each}
use Rattle.prettyless_model.specs.Layout.{lay_text, lay_payload, lay_ending, next_indent, probe, accept, in_trial, some_pending}
use Rattle.prettyless_model.specs.Layout.{is_suppressed}
use Rattle.prettyless_model.specs.Layout.{flushed, entry, entries, break_with, end_with, breaks, finish, layout, layout_by, initial}
use Rattle.prettyless_model.specs.Layout.{bytes_of}
use Rattle.prettyless_model.specs.declared.metrics.Metrics.{Metrics}
use Rattle.prettyless_model.specs.declared.mode.Mode.{Mode}
use Rattle.prettyless_model.specs.declared.mode.Mode.TheVariants.{Break, Flat}
use Rattle.prettyless_laws.specs.Trace.{Piece, Gap, Source, Side, First, Second, Tracing, Traced, Stopped, after_pieces, traced_then}
use Rattle.prettyless_laws.specs.Trace.{trace_text, trace_payload, trace_ending, noted_choice, trace_accept, BreakTraces, trace_at}
use Rattle.prettyless_laws.specs.Trace.{trace_each}
use Rattle.prettyless_laws.specs.Trace.{trace_break_with, trace_breaks, trace_end_with, trace_finish, trace_by, has_content, settled}
use Rattle.prettyless_laws.specs.Trace.{trace_of, trace, written_pieces, written_out}
use Rattle.prettyless_laws.proofs.Owed.{at_once, later, owed, left, owed-append, left-append, none_owed, owed_settled}
use Rattle.prettyless_laws.proofs.Sound.{InRange, Sound, EntriesInRange, zero_in_range, indent_in_range, next_in_range}
use Rattle.prettyless_laws.proofs.Sound.{entries_in_range, gap_spaces, commit_sound, blank_sound, blank_indent, after_sound, after_indent}

-- ---- outcomes and tracings that match

-- the bytes are the pieces written out where so many spaces are pending; both end in one state, where what is left is pending
abbrev pub Matches : RenderOptions → ℕ → Outcome → Tracing → Type 0
Matches o k (Done b s) (Traced ps u) = (b ≡ owed o k ps) × (s ≡ u) × (left o k ps ≡ s.column.indent) × Sound s.column
Matches o k (Done b s) (Stopped ps) = ⊥
Matches o k (Failed b) (Traced ps u) = ⊥
Matches o k (Failed b) (Stopped ps) = b ≡ owed o k ps

matches-after : (o : RenderOptions) (k : ℕ) (b : List ℕ) (ps : List Piece) (x : Outcome) (y : Tracing) → b ≡ owed o k ps
    → Matches o (left o k ps) x y → Matches o k (after_bytes b x) (after_pieces ps y)
matches-after o k b ps (Done c s) (Traced qs u) e h = (
  ap₂ (λ (v w : List ℕ). v ++ w) e h.0 ∙ sym (owed-append o k ps qs),
  h.1,
  left-append o k ps qs ∙ h.2,
  h.3,
)
matches-after o k b ps (Done c s) (Stopped qs) e h = absurd h
matches-after o k b ps (Failed c) (Traced qs u) e h = absurd h
matches-after o k b ps (Failed c) (Stopped qs) e h = ap₂ (λ (v w : List ℕ). v ++ w) e h ∙ sym (owed-append o k ps qs)

matches-then : (o : RenderOptions) (k : ℕ) (x : Outcome) (y : Tracing) (f : State → Outcome) (g : State → Tracing) → Matches o k x y
    → ((s : State) → Sound s.column → Matches o s.column.indent (f s) (g s)) → Matches o k (and_then x f) (traced_then y g)
matches-then o k (Done b s) (Traced ps u) f g h q =
    matches-after o k b ps (f s) (g u) h.0
    (subst (λ (v : State). Matches o (left o k ps) (f s) (g v)) h.1 (subst (λ (n : ℕ). Matches o n (f s) (g s)) (sym h.2) (q s h.3)))
matches-then o k (Done b s) (Stopped ps) f g h q = absurd h
matches-then o k (Failed b) (Traced ps u) f g h q = absurd h
matches-then o k (Failed b) (Stopped ps) f g h q = h

-- ---- choices

matches-chosen : (o : RenderOptions) (k : ℕ) (side : Side) (x : Outcome) (y : Tracing) → Matches o k x y →
    Matches o k x (noted_choice side y)
matches-chosen o k side (Done b s) (Traced ps u) h = h
matches-chosen o k side (Done b s) (Stopped ps) h = absurd h
matches-chosen o k side (Failed b) (Traced ps u) h = absurd h
matches-chosen o k side (Failed b) (Stopped ps) h = h

matches-either : (o : RenderOptions) (k : ℕ) (t : Bool) (x y : Outcome) (z w : Tracing) → Matches o k x z → Matches o k y w
    → Matches o k (if t then x else y) (if t then noted_choice First z else noted_choice Second w)
matches-either o k true x y z w h g = matches-chosen o k First x z h
matches-either o k false x y z w h g = matches-chosen o k Second y w g

matches-group : (o : RenderOptions) (k : ℕ) (t : Bool) (f : Mode → Outcome) (z w : Tracing) → Matches o k (f Flat) z
    → Matches o k (f Break) w → Matches o k (f (if t then Flat else Break)) (if t then noted_choice First z else noted_choice Second w)
matches-group o k true f z w h g = matches-chosen o k First (f Flat) z h
matches-group o k false f z w h g = matches-chosen o k Second (f Break) w g

matches-accept : (o : RenderOptions) (k : ℕ) (was : Bool) (x y : Outcome) (z w : Tracing) → Matches o k x z → Matches o k y w
    → Matches o k (accept o was x y) (trace_accept o was z w)
matches-accept o k was (Done b s) y (Traced ps u) w h g =
    subst (λ (v : State). Matches o k (accept o was (Done b s) y) (trace_accept o was (Traced ps v) w)) h.1
    (matches-either o k (s.within && padding_fits o.width (some_pending s.pending) s.column) (Done b (record s { within = was })) y
    (Traced ps (record s { within = was })) w
    (h.0, refl, h.2, h.3) g)
matches-accept o k was (Done b s) y (Stopped ps) w h g = absurd h
matches-accept o k was (Failed b) y (Traced ps u) w h g = absurd h
matches-accept o k was (Failed b) y (Stopped ps) w h g = matches-chosen o k Second y w g

-- ---- texts, payloads and line ends

text_matches : (o : RenderOptions) (w : ℕ) (t : List ℕ) (s : State) → Sound s.column → Matches o s.column.indent (lay_text o w t s)
    (trace_text o w t s)
text_matches o w [] s h = (refl, refl, refl, h)
text_matches o w (b ∷ bs) s h = (
  ap (λ (x : List ℕ). x ++ (b ∷ bs)) (gap_spaces s.column h) ∙ append_assoc (spaces s.column.indent) (spaces s.column.padding) (b ∷ bs)
      ∙ ap (λ (x : List ℕ). spaces s.column.indent ++ (spaces s.column.padding ++ x)) (sym (append-nil (b ∷ bs))),
  refl,
  refl,
  commit_sound w s.column,
)

payload_owed : (o : RenderOptions) (k g n : ℕ) (t : List ℕ) (b : Bool) → spaces n ≡ spaces k ++ spaces g
    → (if b then spaces n else []) ++ t ≡ owed o k ((if b then Gap g ∷ [] else []) ++ (Source t ∷ []))
payload_owed o k g n t true e =
    ap (λ (x : List ℕ). x ++ t) e ∙ append_assoc (spaces k) (spaces g) t ∙ ap (λ (x : List ℕ). spaces k ++ (spaces g ++ x))
    (sym (append-nil t))
payload_owed o k g n t false e = sym (append-nil t)

payload_left : (o : RenderOptions) (k g : ℕ) (t : List ℕ) (b : Bool) → left o k ((if b then Gap g ∷ [] else []) ++ (Source t ∷ [])) ≡ 0
payload_left o k g t true = refl
payload_left o k g t false = refl

payload_matches : (o : RenderOptions) (m : Metrics) (t : List ℕ) (s : State) → Sound s.column
    → Matches o s.column.indent (lay_payload o m t s) (trace_payload o m t s)
payload_matches o m t s h = (
  payload_owed o s.column.indent s.column.padding (gap s.column) t m.first_nonempty (gap_spaces s.column h),
  refl,
  payload_left o s.column.indent s.column.padding t m.first_nonempty ∙ after_indent m,
  after_sound m,
)

ending_matches : (o : RenderOptions) (p : IndentationPolicy) → o.indentation_policy ≡ p → (k j : ℕ) (s : State) → InRange j
    → Matches o k (lay_ending o p j s) (trace_ending p j s)
ending_matches o Eager e k j s h = (
  ap (λ (x : List ℕ). ending o.line_ending ++ x)
      (sym (append-nil (spaces j)) ∙ ap (λ (p : IndentationPolicy). spaces (at_once p j) ++ []) (sym e)),
  refl,
  ap (λ (p : IndentationPolicy). later p j) e,
  (zero_in_range, refl),
)
ending_matches o Deferred e k j s h = (
  sym (append-nil (ending o.line_ending)) ∙ ap (λ (p : IndentationPolicy). ending o.line_ending ++ (spaces (at_once p j) ++ [])) (sym e),
  refl,
  ap (λ (p : IndentationPolicy). later p j) e,
  (h, refl),
)

plain_either : (o : RenderOptions) (k : ℕ) (t : Bool) (x y : Outcome) (z w : Tracing) → Matches o k x z → Matches o k y w
    → Matches o k (if t then x else y) (if t then z else w)
plain_either o k true x y z w h g = h
plain_either o k false x y z w h g = g

-- ---- documents

-- what goes on from a state matches, from the columns that a layout reaches
pub record MatchesFrom (o : RenderOptions) (f : State → Outcome) (g : State → Tracing) : Type 0 where
  pub matches : (s : State) → Sound s.column → Matches o s.column.indent (f s) (g s)

-- breaks that match
pub record BreaksMatch (o : RenderOptions) (a : Breaks) (b : BreakTraces) : Type 0 where
  pub breaks : (d : Tree) (i : ℕ) (m : Mode) (rest : List Entry) → InRange i → EntriesInRange rest
      → MatchesFrom o (a d i m rest) (b d i m rest)

lay_matches : {o : RenderOptions} {a : Breaks} {b : BreakTraces} → BreaksMatch o a b → (d : Tree) (i : ℕ) (m : Mode) (rest : List Entry)
    (s : State) → InRange i → EntriesInRange rest → Sound s.column → Matches o s.column.indent (lay o a d i m rest s)
    (trace_at o b d i m rest s)
unfolding lay trace_at
lay_matches k Fail i m rest s r e h = refl
lay_matches {o} k (Text t) i m rest s r e h = text_matches o (length t) t s h
lay_matches {o} k (TextWithLen w t) i m rest s r e h = text_matches o w t s h
lay_matches {o} k (MultilineText t) i Break rest s r e h = payload_matches o (metrics t) t s h
lay_matches k (MultilineText t) i Flat rest s r e h = refl
lay_matches k WeakSpace i m rest s r e h = (refl, refl, sym (blank_indent s.column), blank_sound s.column h)
lay_matches k HardLine i Break rest s r e h = (k.breaks HardLine i Break rest r e).matches s h
lay_matches k HardLine i Flat rest s r e h = refl
lay_matches k WeakLine i m rest s r e h = (k.breaks WeakLine i m rest r e).matches s h
lay_matches {o} {a} {b} k (Append x y) i m rest s r e h =
    matches-then o s.column.indent (lay o a x i m (entry i y ∷ rest) s) (trace_at o b x i m (entry i y ∷ rest) s)
    (λ v. lay o a y i m rest v) (λ v. trace_at o b y i m rest v)
    (lay_matches k x i m (entry i y ∷ rest) s r (r, e) h)
    (λ v q. lay_matches k y i m rest v r e q)
lay_matches k (Indented how d) i m rest s r e h =
    lay_matches k d (indent_by how i s.column) m rest s (indent_in_range how i s.column r) e h
lay_matches k (Flatten d) i m rest s r e h = lay_matches k d i Flat rest s r e h
lay_matches k (BreakOrFlat x y) i Break rest s r e h = lay_matches k x i Break rest s r e h
lay_matches k (BreakOrFlat x y) i Flat rest s r e h = lay_matches k y i Flat rest s r e h
lay_matches {o} {a} {b} k (Group d) i Break rest s r e h =
    matches-group o s.column.indent (probe o d i Flat rest s) (λ m. lay o a d i m rest s) (trace_at o b d i Flat rest s)
    (trace_at o b d i Break rest s)
    (lay_matches k d i Flat rest s r e h)
    (lay_matches k d i Break rest s r e h)
lay_matches k (Group d) i Flat rest s r e h = lay_matches k d i Flat rest s r e h
lay_matches {o} {a} {b} k (Union x y) i Break rest s r e h =
    matches-accept o s.column.indent s.within (lay o a x i Break rest (in_trial s)) (lay o a y i Break rest s)
    (trace_at o b x i Break rest (in_trial s)) (trace_at o b y i Break rest s)
    (lay_matches k x i Break rest (in_trial s) r e h)
    (lay_matches k y i Break rest s r e h)
lay_matches k (Union x y) i Flat rest s r e h = lay_matches k x i Flat rest s r e h
lay_matches {o} {a} {b} k (PartialUnion x y) i Break rest s r e h =
    matches-either o s.column.indent (probe o x i Break rest s) (lay o a x i Break rest s) (lay o a y i Break rest s)
    (trace_at o b x i Break rest s) (trace_at o b y i Break rest s)
    (lay_matches k x i Break rest s r e h)
    (lay_matches k y i Break rest s r e h)
lay_matches k (PartialUnion x y) i Flat rest s r e h = lay_matches k x i Flat rest s r e h
lay_matches {o} {a} {b} k (Chosen test x y) i m rest s r e h =
    matches-either o s.column.indent (choice_holds test (prospective s.column) i) (lay o a x i m rest s) (lay o a y i m rest s)
    (trace_at o b x i m rest s) (trace_at o b y i m rest s)
    (lay_matches k x i m rest s r e h)
    (lay_matches k y i m rest s r e h)
-- every other node leaves the column as it is
lay_matches k _ i m rest s r e h = (refl, refl, refl, h)

each_matches : {o : RenderOptions} {a : Breaks} {b : BreakTraces} → BreaksMatch o a b
    → (ds : List Tree) (i : ℕ) (m : Mode) (rest : List Entry) (s : State) → InRange i → EntriesInRange rest → Sound s.column
    → Matches o s.column.indent (lay_each o a ds i m rest s) (trace_each o b ds i m rest s)
unfolding lay_each trace_each
each_matches k [] i m rest s r e h = (refl, refl, refl, h)
each_matches {o} {a} {b} k (d ∷ ds) i m rest s r e h =
    matches-then o s.column.indent (lay o a d i m (entries i ds ++ rest) s) (trace_at o b d i m (entries i ds ++ rest) s)
    (λ v. lay_each o a ds i m rest v) (λ v. trace_each o b ds i m rest v)
    (lay_matches k d i m (entries i ds ++ rest) s r (entries_in_range i ds rest r e) h)
    (λ v q. each_matches k ds i m rest v r e q)

-- ---- what waits, breaks and the end

-- pending documents match, and then what follows them
waiting_matches : {o : RenderOptions} {a : Breaks} {b : BreakTraces} → BreaksMatch o a b
    → (ds : List Tree) (i : ℕ) (m : Mode) (rest : List Entry) {f : State → Outcome} {g : State → Tracing}
    → MatchesFrom o f g → (s : State) → InRange i → EntriesInRange rest
    → Sound s.column → Matches o s.column.indent (after_bytes (spaces (gap s.column)) (and_then (lay_each o a ds i m rest (flushed o s)) f))
    (after_pieces (Gap s.column.padding ∷ []) (traced_then (trace_each o b ds i m rest (flushed o s)) g))
waiting_matches {o} {a} {b} k ds i m rest {f} {g} q s r e h =
    matches-after o s.column.indent (spaces (gap s.column)) (Gap s.column.padding ∷ [])
    (and_then (lay_each o a ds i m rest (flushed o s)) f) (traced_then (trace_each o b ds i m rest (flushed o s)) g)
    (gap_spaces s.column h ∙ ap (λ (x : List ℕ). spaces s.column.indent ++ x) (sym (append-nil (spaces s.column.padding))))
    (matches-then o 0 (lay_each o a ds i m rest (flushed o s)) (trace_each o b ds i m rest (flushed o s)) f g
    (each_matches k ds i m rest (flushed o s) r e (commit_sound 0 s.column)) q.matches)

break_matches : {o : RenderOptions} {a : Breaks} {b : BreakTraces} → BreaksMatch o a b → (ps : List Tree) (d : Tree) (i : ℕ) (m : Mode)
    (rest : List Entry) (s : State) → InRange i → EntriesInRange rest → Sound s.column
    → Matches o s.column.indent (break_with o a ps d i m rest s) (trace_break_with o b ps d i m rest s)
break_matches {o} k [] d i m rest s r e h =
    plain_either o s.column.indent (is_suppressed d s.column) (Done [] s) (lay_ending o o.indentation_policy (next_indent i rest) s)
    (Traced [] s) (trace_ending o.indentation_policy (next_indent i rest) s)
    (refl, refl, refl, h)
    (ending_matches o o.indentation_policy refl s.column.indent (next_indent i rest) s (next_in_range i rest r e))
break_matches k (p ∷ ps) d i m rest s r e h =
    waiting_matches k (p ∷ ps) i m (entry i d ∷ rest) (k.breaks d i m rest r e) s r (r, e) h

breaks_match : (o : RenderOptions) (n : ℕ) → BreaksMatch o (breaks o n) (trace_breaks o n)
unfolding breaks trace_breaks
breaks_match o zero = record { breaks = λ d i m rest r e. record { matches = λ s h. refl } }
breaks_match o (suc n) = record {
  breaks = λ d i m rest r e. record { matches = λ s h. break_matches (breaks_match o n) s.pending d i m rest s r e h };
}

end_matches : {o : RenderOptions} {a : Breaks} {b : BreakTraces} → BreaksMatch o a b → {f : State → Outcome} {g : State → Tracing}
    → MatchesFrom o f g → (ps : List Tree) (s : State) → Sound s.column
    → Matches o s.column.indent (end_with o a f ps s) (trace_end_with o b g ps s)
end_matches k q [] s h = (refl, refl, refl, h)
end_matches k q (p ∷ ps) s h = waiting_matches k (p ∷ ps) 0 Break [] q s zero_in_range tt h

finish_matches : {o : RenderOptions} {a : Breaks} {b : BreakTraces} → BreaksMatch o a b → (n : ℕ)
    → MatchesFrom o (finish o a n) (trace_finish o b n)
unfolding finish trace_finish
finish_matches k zero = record { matches = λ s h. refl }
finish_matches k (suc n) = record { matches = λ s h. end_matches k (finish_matches k n) s.pending s h }

-- ---- the whole layout

by_matches : (o : RenderOptions) (n : ℕ) (d : Tree) → Matches o 0 (layout_by o n d) (trace_by o n d)
unfolding layout_by trace_by
by_matches o n d =
    matches-then o 0 (lay o (breaks o n) d 0 Break [] initial) (trace_at o (trace_breaks o n) d 0 Break [] initial)
    (λ s. finish o (breaks o n) n s) (λ s. trace_finish o (trace_breaks o n) n s)
    (lay_matches (breaks_match o n) d 0 Break [] initial zero_in_range tt (zero_in_range, refl))
    (finish_matches (breaks_match o n) n).matches

written_of : (o : RenderOptions) (x : Outcome) (y : Tracing) → Matches o 0 x y → bytes_of x ≡ written_out o (trace_of y)
written_of o (Done b s) (Traced ps u) h = ap Whole (h.0 ∙ owed_settled o 0 ps ∙ none_owed (has_content ps) (written_pieces o (settled ps)))
written_of o (Done b s) (Stopped ps) h = absurd h
written_of o (Failed b) (Traced ps u) h = absurd h
written_of o (Failed b) (Stopped ps) h = ap Cut (h ∙ owed_settled o 0 ps ∙ none_owed (has_content ps) (written_pieces o (settled ps)))

pub layouts_are_traces : (o : RenderOptions) (d : Tree) → layout o d ≡ written_out o (trace o d)
unfolding layout trace
layouts_are_traces o d = written_of o (layout_by o (size d + 1) d) (trace_by o (size d + 1) d) (by_matches o (size d + 1) d)
