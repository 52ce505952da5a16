-- Traces at one width: states that are alike have the same pieces, under any options of that width.
use Rattle.std.proofs.Common.{◌≡◌, ℕ, zero, suc, ◌+◌, List, [], ◌∷◌, ◌++◌, length, refl, ap, ap₂, sym, subst, ◌∙◌, Bool, true, false, ◌&&◌}
use Rattle.std.proofs.Common.{nat_le, if◌then◌else◌}
use Rattle.prettyless_model.specs.declared.options.RenderOptions.{RenderOptions}
use Rattle.prettyless_model.specs.declared.options.IndentationPolicy.{IndentationPolicy}
use Rattle.prettyless_model.specs.declared.options.IndentationPolicy.TheVariants.{Eager, Deferred}
use Rattle.prettyless_model.specs.Tree.{Tree, Fail, Text, TextWithLen, MultilineText, WeakSpace, HardLine, WeakLine, Append, LineSuffix}
use Rattle.prettyless_model.specs.Tree.{Indented, Flatten, BreakOrFlat, Group, Union, PartialUnion, Chosen, size}
use Rattle.prettyless_model.specs.Metrics.{metrics}
use Rattle.prettyless_model.specs.Choice.{choice_holds}
use Rattle.prettyless_model.specs.Column.{indented, deferred, prospective, commit, padding_fits}
use Rattle.prettyless_model.specs.Indent.{indent_by}
use Rattle.prettyless_model.specs.Layout.{State, Entry, after_payload, next_indent, entry, entries, some_pending, probe, in_trial, flushed}
use Rattle.prettyless_model.specs.Layout.{is_suppressed, initial}
use Rattle.prettyless_model.specs.declared.column.Column.{Column}
use Rattle.prettyless_model.specs.declared.metrics.Metrics.{Metrics}
use Rattle.prettyless_model.specs.declared.mode.Mode.{Mode}
use Rattle.prettyless_model.specs.declared.mode.Mode.TheVariants.{Break, Flat}
use Rattle.prettyless_laws.specs.Trace as traces
use Rattle.prettyless_laws.specs.Trace.{Piece, Gap, Source, Alternative, Tracing, Traced, Stopped, First, Second, after_pieces, traced_then}
use Rattle.prettyless_laws.specs.Trace.{trace_text, trace_payload, trace_ending, noted_choice, trace_accept, BreakTraces, trace_at}
use Rattle.prettyless_laws.specs.Trace.{trace_each}
use Rattle.prettyless_laws.specs.Trace.{trace_break_with, trace_breaks, trace_end_with, trace_finish, trace_by, settled, trace_of, trace}
use Rattle.prettyless_laws.specs.Trace.{Complete, Partial}
use Rattle.prettyless_laws.proofs.Alike.{AlikeStates, alike_equal, prospective_alike, indent_alike, commit_alike, blank_alike, ending_alike}
use Rattle.prettyless_laws.proofs.Alike.{padding_fits_alike, probe_alike, payload_alike, flushed_alike, suppressed_alike}

-- ---- tracings that are the same

-- the same pieces, and states that are alike after them
abbrev pub Same : Tracing → Tracing → Type 0
Same (Traced ps s) (Traced qs u) = (ps ≡ qs) × AlikeStates s u
Same (Traced ps s) (Stopped qs) = ⊥
Same (Stopped ps) (Traced qs u) = ⊥
Same (Stopped ps) (Stopped qs) = ps ≡ qs

same-after : (xs ys : List Piece) (x y : Tracing) → xs ≡ ys → Same x y → Same (after_pieces xs x) (after_pieces ys y)
same-after xs ys (Traced ps s) (Traced qs u) e h = (ap₂ (λ (v w : List Piece). v ++ w) e h.0, h.1)
same-after xs ys (Traced ps s) (Stopped qs) e h = absurd h
same-after xs ys (Stopped ps) (Traced qs u) e h = absurd h
same-after xs ys (Stopped ps) (Stopped qs) e h = ap₂ (λ (v w : List Piece). v ++ w) e h

same-then : (x y : Tracing) (f g : State → Tracing) → Same x y → ((s u : State) → AlikeStates s u → Same (f s) (g u))
    → Same (traced_then x f) (traced_then y g)
same-then (Traced ps s) (Traced qs u) f g h k = same-after ps qs (f s) (g u) h.0 (k s u h.1)
same-then (Traced ps s) (Stopped qs) f g h k = absurd h
same-then (Stopped ps) (Traced qs u) f g h k = absurd h
same-then (Stopped ps) (Stopped qs) f g h k = h

same-either : (a b : Bool) (x y z w : Tracing) → a ≡ b → Same x z → Same y w → Same (if a then x else y) (if b then z else w)
same-either true true x y z w e h k = h
same-either false false x y z w e h k = k
same-either true false x y z w e h k = absurd (cc e)
same-either false true x y z w e h k = absurd (cc e)

same-chosen : (a b : Bool) (x y z w : Tracing) → a ≡ b → Same x z → Same y w →
    Same (if a then noted_choice First x else noted_choice Second y)
    (if b then noted_choice First z else noted_choice Second w)
same-chosen a b x y z w e h k =
    same-either a b (noted_choice First x) (noted_choice Second y) (noted_choice First z) (noted_choice Second w) e
    (same-after (Alternative First ∷ []) (Alternative First ∷ []) x z refl h)
    (same-after (Alternative Second ∷ []) (Alternative Second ∷ []) y w refl k)

-- ---- texts, payloads, line ends and unions

text_same : (o p : RenderOptions) → o.width ≡ p.width → (w : ℕ) (t : List ℕ) (s u : State) → AlikeStates s u
    → Same (trace_text o w t s) (trace_text p w t u)
text_same o p e w [] s u h = (refl, h)
text_same o p e w (b ∷ bs) s u h = (
  ap₂ (λ (g : ℕ) (c : Column). Gap g ∷ traces.Text (b ∷ bs) c.position ∷ []) h.column.padding (commit_alike w s.column u.column h.column),
  record {
    column = alike_equal (commit w s.column) (commit w u.column) (commit_alike w s.column u.column h.column);
    pending = h.pending;
    within = ap₂ (λ (x y : Bool). x && y) h.within
        (ap₂ (λ (c : Column) (n : ℕ). nat_le c.position n) (commit_alike w s.column u.column h.column) e);
  },
)

payload_same : (o p : RenderOptions) → o.width ≡ p.width → (m : Metrics) (t : List ℕ) (s u : State) → AlikeStates s u
    → Same (trace_payload o m t s) (trace_payload p m t u)
payload_same o p e m t s u h = (
  ap (λ (g : ℕ). (if m.first_nonempty then Gap g ∷ [] else []) ++ (Source t ∷ [])) h.column.padding,
  record {
    column = alike_equal (after_payload m) (after_payload m) refl;
    pending = h.pending;
    within = ap₂ (λ (x y : Bool). x && y) h.within (payload_alike o p e m s.column u.column h.column);
  },
)

ending_same : (q r : IndentationPolicy) (k : ℕ) (s u : State) → AlikeStates s u → Same (trace_ending q k s) (trace_ending r k u)
ending_same Eager Eager k s u h =
    (refl, record { column = alike_equal (indented k) (indented k) refl; pending = h.pending; within = h.within })
ending_same Deferred Deferred k s u h =
    (refl, record { column = alike_equal (deferred k) (deferred k) refl; pending = h.pending; within = h.within })
ending_same Eager Deferred k s u h =
    (refl, record { column = record { fresh = refl; padding = refl; place = ending_alike k }; pending = h.pending; within = h.within })
ending_same Deferred Eager k s u h = (
  refl,
  record {
    column = record { fresh = refl; padding = refl; place = sym (ending_alike k) };
    pending = h.pending;
    within = h.within;
  },
)

accept_same : (o p : RenderOptions) → o.width ≡ p.width → {a b : Bool} → a ≡ b → (x y z w : Tracing) → Same x z → Same y w
    → Same (trace_accept o a x y) (trace_accept p b z w)
accept_same o p e {a} {b} f (Traced ps s) y (Traced qs u) w h k =
    same-chosen (s.within && padding_fits o.width (some_pending s.pending) s.column)
    (u.within && padding_fits p.width (some_pending u.pending) u.column)
    (Traced ps (record s { within = a })) y (Traced qs (record u { within = b })) w
    (ap₂ (λ (v w : Bool). v && w) h.1.within
    (padding_fits_alike o.width (some_pending s.pending) s.column u.column h.1.column
    ∙ ap₂ (λ (n : ℕ) (ds : List Tree). padding_fits n (some_pending ds) u.column) e h.1.pending))
    (h.0, record { column = h.1.column; pending = h.1.pending; within = f })
    k
accept_same o p e f (Traced ps s) y (Stopped qs) w h k = absurd h
accept_same o p e f (Stopped ps) y (Traced qs u) w h k = absurd h
accept_same o p e f (Stopped ps) y (Stopped qs) w h k = same-after (Alternative Second ∷ []) (Alternative Second ∷ []) y w refl k

-- ---- documents

-- the same trace from states that are alike
pub record SameFrom (f g : State → Tracing) : Type 0 where
  pub same : (s u : State) → AlikeStates s u → Same (f s) (g u)

-- two breaks with the same trace from states that are alike
pub record SameBreaks (a b : BreakTraces) : Type 0 where
  pub breaks : (d : Tree) (i : ℕ) (m : Mode) (rest : List Entry) → SameFrom (a d i m rest) (b d i m rest)

traces_same : (o p : RenderOptions) → o.width ≡ p.width → {a b : BreakTraces} → SameBreaks a b
    → (d : Tree) (i : ℕ) (m : Mode) (rest : List Entry) {s u : State} → AlikeStates s u
    → Same (trace_at o a d i m rest s) (trace_at p b d i m rest u)
unfolding trace_at
traces_same o p e k Fail i m rest h = refl
traces_same o p e k (Text t) i m rest {s} {u} h = text_same o p e (length t) t s u h
traces_same o p e k (TextWithLen w t) i m rest {s} {u} h = text_same o p e w t s u h
traces_same o p e k (MultilineText t) i Break rest {s} {u} h = payload_same o p e (metrics t) t s u h
traces_same o p e k (MultilineText t) i Flat rest h = refl
traces_same o p e k WeakSpace i m rest {s} {u} h =
    (refl, record { column = blank_alike s.column u.column h.column; pending = h.pending; within = h.within })
traces_same o p e k HardLine i Break rest {s} {u} h = (k.breaks HardLine i Break rest).same s u h
traces_same o p e k HardLine i Flat rest h = refl
traces_same o p e k WeakLine i m rest {s} {u} h = (k.breaks WeakLine i m rest).same s u h
traces_same o p e {a} {b} k (Append x y) i m rest {s} {u} h =
    same-then (trace_at o a x i m (entry i y ∷ rest) s) (trace_at p b x i m (entry i y ∷ rest) u) (λ v. trace_at o a y i m rest v)
    (λ v. trace_at p b y i m rest v)
    (traces_same o p e k x i m (entry i y ∷ rest) h)
    (λ v w q. traces_same o p e k y i m rest q)
traces_same o p e k (LineSuffix d) i m rest h =
    (refl, record { column = h.column; pending = ap (λ (ps : List Tree). ps ++ d ∷ []) h.pending; within = h.within })
traces_same o p e {a} {b} k (Indented how d) i m rest {s} {u} h =
    subst (λ (n : ℕ). Same (trace_at o a d (indent_by how i s.column) m rest s) (trace_at p b d n m rest u))
    (indent_alike how i s.column u.column h.column)
    (traces_same o p e k d (indent_by how i s.column) m rest h)
traces_same o p e k (Flatten d) i m rest h = traces_same o p e k d i Flat rest h
traces_same o p e k (BreakOrFlat x y) i Break rest h = traces_same o p e k x i Break rest h
traces_same o p e k (BreakOrFlat x y) i Flat rest h = traces_same o p e k y i Flat rest h
traces_same o p e {a} {b} k (Group d) i Break rest {s} {u} h =
    same-chosen (probe o d i Flat rest s) (probe p d i Flat rest u) (trace_at o a d i Flat rest s) (trace_at o a d i Break rest s)
    (trace_at p b d i Flat rest u) (trace_at p b d i Break rest u)
    (probe_alike o p e d i Flat rest s u h)
    (traces_same o p e k d i Flat rest h)
    (traces_same o p e k d i Break rest h)
traces_same o p e k (Group d) i Flat rest h = traces_same o p e k d i Flat rest h
traces_same o p e {a} {b} k (Union x y) i Break rest {s} {u} h =
    accept_same o p e h.within (trace_at o a x i Break rest (in_trial s)) (trace_at o a y i Break rest s)
    (trace_at p b x i Break rest (in_trial u)) (trace_at p b y i Break rest u)
    (traces_same o p e k x i Break rest (record { column = h.column; pending = h.pending; within = refl }))
    (traces_same o p e k y i Break rest h)
traces_same o p e k (Union x y) i Flat rest h = traces_same o p e k x i Flat rest h
traces_same o p e {a} {b} k (PartialUnion x y) i Break rest {s} {u} h =
    same-chosen (probe o x i Break rest s) (probe p x i Break rest u) (trace_at o a x i Break rest s) (trace_at o a y i Break rest s)
    (trace_at p b x i Break rest u) (trace_at p b y i Break rest u)
    (probe_alike o p e x i Break rest s u h)
    (traces_same o p e k x i Break rest h)
    (traces_same o p e k y i Break rest h)
traces_same o p e k (PartialUnion x y) i Flat rest h = traces_same o p e k x i Flat rest h
traces_same o p e {a} {b} k (Chosen test x y) i m rest {s} {u} h =
    same-chosen (choice_holds test (prospective s.column) i) (choice_holds test (prospective u.column) i) (trace_at o a x i m rest s)
    (trace_at o a y i m rest s) (trace_at p b x i m rest u) (trace_at p b y i m rest u)
    (ap (λ (n : ℕ). choice_holds test n i) (prospective_alike s.column u.column h.column))
    (traces_same o p e k x i m rest h)
    (traces_same o p e k y i m rest h)
-- every other node leaves the state as it is
traces_same o p e k _ i m rest h = (refl, h)

each_same : (o p : RenderOptions) → o.width ≡ p.width → {a b : BreakTraces} → SameBreaks a b
    → (ds : List Tree) (i : ℕ) (m : Mode) (rest : List Entry) {s u : State} → AlikeStates s u
    → Same (trace_each o a ds i m rest s) (trace_each p b ds i m rest u)
unfolding trace_each
each_same o p e k [] i m rest h = (refl, h)
each_same o p e {a} {b} k (d ∷ ds) i m rest {s} {u} h =
    same-then (trace_at o a d i m (entries i ds ++ rest) s) (trace_at p b d i m (entries i ds ++ rest) u)
    (λ v. trace_each o a ds i m rest v) (λ v. trace_each p b ds i m rest v)
    (traces_same o p e k d i m (entries i ds ++ rest) h)
    (λ v w q. each_same o p e k ds i m rest q)

-- ---- what waits, breaks and the end

-- pending documents have the same trace, and then what follows them
waiting_same : (o p : RenderOptions) → o.width ≡ p.width → {a b : BreakTraces} → SameBreaks a b
    → (ds : List Tree) (i : ℕ) (m : Mode) (rest : List Entry) {f g : State → Tracing} → SameFrom f g
    → {s u : State} → AlikeStates s u
    → Same (after_pieces (Gap s.column.padding ∷ []) (traced_then (trace_each o a ds i m rest (flushed o s)) f))
    (after_pieces (Gap u.column.padding ∷ []) (traced_then (trace_each p b ds i m rest (flushed p u)) g))
waiting_same o p e {a} {b} k ds i m rest {f} {g} q {s} {u} h =
    same-after (Gap s.column.padding ∷ []) (Gap u.column.padding ∷ []) (traced_then (trace_each o a ds i m rest (flushed o s)) f)
    (traced_then (trace_each p b ds i m rest (flushed p u)) g)
    (ap (λ (n : ℕ). Gap n ∷ []) h.column.padding)
    (same-then (trace_each o a ds i m rest (flushed o s)) (trace_each p b ds i m rest (flushed p u)) f g
    (each_same o p e k ds i m rest (flushed_alike o p e s u h)) q.same)

break_same : (o p : RenderOptions) → o.width ≡ p.width → {a b : BreakTraces} → SameBreaks a b
    → (ps : List Tree) (d : Tree) (i : ℕ) (m : Mode) (rest : List Entry) {s u : State} → AlikeStates s u
    → Same (trace_break_with o a ps d i m rest s) (trace_break_with p b ps d i m rest u)
break_same o p e k [] d i m rest {s} {u} h =
    same-either (is_suppressed d s.column) (is_suppressed d u.column) (Traced [] s)
    (trace_ending o.indentation_policy (next_indent i rest) s) (Traced [] u) (trace_ending p.indentation_policy (next_indent i rest) u)
    (suppressed_alike d s.column u.column h.column)
    (refl, h)
    (ending_same o.indentation_policy p.indentation_policy (next_indent i rest) s u h)
break_same o p e k (t ∷ ts) d i m rest h =
    waiting_same o p e k (t ∷ ts) i m (entry i d ∷ rest) (k.breaks d i m rest) h

breaks_same : (o p : RenderOptions) → o.width ≡ p.width → (n : ℕ) → SameBreaks (trace_breaks o n) (trace_breaks p n)
unfolding trace_breaks
breaks_same o p e zero = record { breaks = λ d i m rest. record { same = λ s u h. refl } }
breaks_same o p e (suc n) = record {
  breaks = λ d i m rest. record {
    same = λ s u h. subst (λ (ps : List Tree). Same (trace_break_with o (trace_breaks o n) s.pending d i m rest s)
        (trace_break_with p (trace_breaks p n) ps d i m rest u)) h.pending
        (break_same o p e (breaks_same o p e n) s.pending d i m rest h);
  };
}

end_same : (o p : RenderOptions) → o.width ≡ p.width → {a b : BreakTraces} → SameBreaks a b → {f g : State → Tracing}
    → SameFrom f g → (ps : List Tree) {s u : State} → AlikeStates s u → Same (trace_end_with o a f ps s) (trace_end_with p b g ps u)
end_same o p e k q [] h = (refl, h)
end_same o p e k q (t ∷ ts) h = waiting_same o p e k (t ∷ ts) 0 Break [] q h

finish_same : (o p : RenderOptions) → o.width ≡ p.width → {a b : BreakTraces} → SameBreaks a b → (n : ℕ)
    → SameFrom (trace_finish o a n) (trace_finish p b n)
unfolding trace_finish
finish_same o p e k zero = record { same = λ s u h. refl }
finish_same o p e {a} {b} k (suc n) = record {
  same = λ s u h. subst
      (λ (ps : List Tree). Same (trace_end_with o a (trace_finish o a n) s.pending s) (trace_end_with p b (trace_finish p b n) ps u))
      h.pending
      (end_same o p e k (finish_same o p e k n) s.pending h);
}

-- ---- the whole trace

by_same : (o p : RenderOptions) → o.width ≡ p.width → (n : ℕ) (d : Tree) → Same (trace_by o n d) (trace_by p n d)
unfolding trace_by
by_same o p e n d =
    same-then (trace_at o (trace_breaks o n) d 0 Break [] initial) (trace_at p (trace_breaks p n) d 0 Break [] initial)
    (λ v. trace_finish o (trace_breaks o n) n v) (λ v. trace_finish p (trace_breaks p n) n v)
    (traces_same o p e (breaks_same o p e n) d 0 Break [] {s = initial} {u = initial}
    (record { column = alike_equal initial.column initial.column refl; pending = refl; within = refl }))
    (finish_same o p e (breaks_same o p e n) n).same

trace_of_same : (x y : Tracing) → Same x y → trace_of x ≡ trace_of y
trace_of_same (Traced ps s) (Traced qs u) h = ap (λ (v : List Piece). Complete (settled v)) h.0
trace_of_same (Traced ps s) (Stopped qs) h = absurd h
trace_of_same (Stopped ps) (Traced qs u) h = absurd h
trace_of_same (Stopped ps) (Stopped qs) h = ap (λ (v : List Piece). Partial (settled v)) h

pub traces_go_by_width : (o p : RenderOptions) (d : Tree) → o.width ≡ p.width → trace o d ≡ trace p d
unfolding trace
traces_go_by_width o p d e = trace_of_same (trace_by o (size d + 1) d) (trace_by p (size d + 1) d) (by_same o p e (size d + 1) d)
