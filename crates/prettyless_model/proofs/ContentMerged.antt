-- Content, merged: what a document writes interleaves what it spells outside its line suffixes with what waited. With
-- no line suffix the content is in order.
use Rattle.std.proofs.Common.{◌≡◌, ℕ, zero, suc, ◌+◌, ◌≤◌, List, [], ◌∷◌, ◌++◌, length, refl, ap, sym, ◌∙◌, append_assoc, append-nil, arith}
use Rattle.std.proofs.Common.{if◌then◌else◌}
use Rattle.prettyless_model.specs.Spaces.{spaces}
use Rattle.prettyless_model.specs.declared.options.RenderOptions.{RenderOptions}
use Rattle.prettyless_model.specs.Tree.{Tree, Nil, Fail, Text, TextWithLen, MultilineText, WeakSpace, HardLine, WeakLine, Append}
use Rattle.prettyless_model.specs.Tree.{LineSuffix, Indented, ExpandParent, Flatten, BreakOrFlat, Group, Union, PartialUnion, Chosen, size}
use Rattle.prettyless_model.specs.Column.{gap, blank, prospective}
use Rattle.prettyless_model.specs.Metrics.{metrics}
use Rattle.prettyless_model.specs.Indent.{indent_by}
use Rattle.prettyless_model.specs.Choice.{choice_holds}
use Rattle.prettyless_model.specs.Look.{by_mode}
use Rattle.prettyless_model.specs.Layout.{State, Outcome, Done, Failed, Entry, Breaks, Whole, after_bytes, and_then, lay, lay_each}
use Rattle.prettyless_model.specs.Layout.{lay_text, lay_payload, probe, in_trial, plain_break, flushed, entry, entries, break_with}
use Rattle.prettyless_model.specs.Layout.{end_with}
use Rattle.prettyless_model.specs.Layout.{breaks, finish, layout, layout_by, initial, bytes_of}
use Rattle.prettyless_model.specs.Spelling.{ink, spells, spelled_parts}
use Rattle.prettyless_model.specs.Content.{suffix_depth, IsMerge}
use Rattle.prettyless_model.specs.declared.mode.Mode.{Mode}
use Rattle.prettyless_model.specs.declared.mode.Mode.TheVariants.{Break, Flat}
use Rattle.prettyless_model.proofs.Ink.{ink-append, ink-spaces}
use Rattle.prettyless_model.proofs.Words.{row, spells_one_more, depth_one_more, parts_in_order}
use Rattle.prettyless_model.proofs.Endings.{NothingPending, layout_by_ends}
use Rattle.prettyless_model.proofs.Outcomes.{holds-either, holds-accept}
use Rattle.prettyless_model.proofs.Writes.{Writes, text_writes, payload_writes, plain_writes}
use Rattle.prettyless_model.proofs.Merges.{merge_of_first, merge_of_second, merge_with_none, merge-append}

-- ---- words and merges

-- documents spell this word in a row, and none of them has a line suffix
pub record SpelledInRow (ds : List Tree) (w : List ℕ) : Type 0 where
  pub spelled : spells (row ds) w
  pub depth : suffix_depth (row ds) ≡ 0

-- the pending documents do so
abbrev pub PendingSpell : State → List ℕ → Type 0
PendingSpell st q = SpelledInRow st.pending q

-- the bytes interleave the first word with a beginning of the second, whose rest is pending after them
abbrev pub Merges : List ℕ → List ℕ → Outcome → Type 0
Merges v q (Done b st) = (x : List ℕ) × (rest : List ℕ) × (q ≡ x ++ rest) × IsMerge (ink b) v x × PendingSpell st rest
Merges v q (Failed b) = Unit {0}

-- ---- outcomes, one after another

-- what is written while the pending documents stay
merges_writes : (v q : List ℕ) (st : State) (o : Outcome) → Writes v st.pending o → PendingSpell st q → Merges v q o
merges_writes v q st (Done b after) e h = ([], q, refl, rw e.0 (merge_of_first v), rw e.1 h)
merges_writes v q st (Failed b) e h = tt

-- bytes that interleave v1 and x, before an outcome that does so with the rest
merges-joined : (b x z v1 v2 q : List ℕ) (o : Outcome) → q ≡ x ++ z → IsMerge (ink b) v1 x → Merges v2 z o
    → Merges (v1 ++ v2) q (after_bytes b o)
merges-joined b x z v1 v2 q (Done c st) e m h = (
  x ++ h.0,
  h.1,
  e ∙ ap (λ (y : List ℕ). x ++ y) h.2 ∙ sym (append_assoc x h.0 h.1),
  rw (ink-append b c) (merge-append (ink b) (ink c) v1 x v2 h.0 m h.3),
  h.4,
)
merges-joined b x z v1 v2 q (Failed c) e m h = tt

merges-after : (b v q : List ℕ) (o : Outcome) → ink b ≡ [] → Merges v q o → Merges v q (after_bytes b o)
merges-after b v q o e h = merges-joined b [] q [] v q o refl (rw e (refl, refl)) h

-- one outcome after another, of which the second adds a word to what waits
merges-then : (v1 q v2 u : List ℕ) (o : Outcome) (f : State → Outcome) → Merges v1 q o
    → ((st : State) (r : List ℕ) → PendingSpell st r → Merges v2 (r ++ u) (f st)) → Merges (v1 ++ v2) (q ++ u) (and_then o f)
merges-then v1 q v2 u (Done b st) f h g =
    merges-joined b h.0 (h.1 ++ u) v1 v2 (q ++ u) (f st) (ap (λ (y : List ℕ). y ++ u) h.2 ∙ append_assoc h.0 h.1 u) h.3 (g st h.1 h.4)
merges-then v1 q v2 u (Failed b) f h g = tt

-- and where it adds none
merges-next : (v1 q v2 : List ℕ) (o : Outcome) (f : State → Outcome) → Merges v1 q o
    → ((st : State) (r : List ℕ) → PendingSpell st r → Merges v2 r (f st)) → Merges (v1 ++ v2) q (and_then o f)
merges-next v1 q v2 o f h g =
    let joined = merges-then v1 q v2 [] o f h (λ (st : State) (r : List ℕ) (w : PendingSpell st r). rw append-nil (g st r w)) in
    rw (append-nil q) at joined

no_parts : (x r : List ℕ) → [] ≡ x ++ r → (x ≡ []) × (r ≡ [])
no_parts [] r e = (refl, sym e)
no_parts (b ∷ bs) r e = absurd (cc)

-- what was written where nothing waited may as well be what waited before
merges_late : (q : List ℕ) (o : Outcome) → Merges q [] o → Merges [] q o
merges_late q (Done b st) h =
    let none = no_parts h.0 h.1 h.2 in
    (q, [], sym (append-nil q), rw (merge_with_none (ink b) q h.0 none.0 h.3) (merge_of_second q), rw none.1 at h.4)
merges_late q (Failed b) h = tt

-- ---- what writes all that waits

-- what goes on from a state writes what waits, and nothing else
pub record Unloads (f : State → Outcome) : Type 0 where
  pub merges : (st : State) (q : List ℕ) → PendingSpell st q → Merges [] q (f st)

-- a break does so
pub record WritesPending (brk : Breaks) : Type 0 where
  pub unloads : (d : Tree) (i : ℕ) (m : Mode) (rest : List Entry) → Unloads (brk d i m rest)

-- ---- one document

-- a document that spells this word, and adds nothing to what waits
merges_to : (v v' q u : List ℕ) (o : Outcome) → (v ≡ v') × (u ≡ []) → Merges v' q o → Merges v (q ++ u) o
merges_to v v' q u o e h = rw (e.0, e.1, append-nil q) h

merges_piece : (v v' q u : List ℕ) (st : State) (o : Outcome) → Writes v' st.pending o → (v ≡ v') × (u ≡ []) → PendingSpell st q
    → Merges v (q ++ u) o
merges_piece v v' q u st o h e w = merges_to v v' q u o e (merges_writes v' q st o h w)

-- a document spells v outside its line suffixes and u in them, and none of these has another in it
pub record SpelledApart (d : Tree) (v u : List ℕ) : Type 0 where
  pub parts : spelled_parts d v u
  pub depth : suffix_depth d ≤ 1

pub lay_merges : (o : RenderOptions) {brk : Breaks} → WritesPending brk → (d : Tree) (i : ℕ) (m : Mode) (rest : List Entry) (st : State)
    {v u q : List ℕ} → SpelledApart d v u → PendingSpell st q → Merges v (q ++ u) (lay o brk d i m rest st)
unfolding lay
lay_merges o k Nil i m rest st {v} {u} {q} h w = merges_piece v [] q u st (Done [] st) (refl, refl) h.parts w
lay_merges o k Fail i m rest st h w = tt
lay_merges o k (Text s) i m rest st {v} {u} {q} h w =
    merges_piece v (ink s) q u st (lay_text o (length s) s st) (text_writes o (length s) s st) h.parts w
lay_merges o k (TextWithLen n s) i m rest st {v} {u} {q} h w =
    merges_piece v (ink s) q u st (lay_text o n s st) (text_writes o n s st) h.parts w
lay_merges o k (MultilineText s) i Break rest st {v} {u} {q} h w =
    merges_piece v (ink s) q u st (lay_payload o (metrics s) s st) (payload_writes o (metrics s) s st) h.parts w
lay_merges o k (MultilineText s) i Flat rest st h w = tt
lay_merges o k WeakSpace i m rest st {v} {u} {q} h w =
    merges_piece v [] q u st (Done [] (record st { column = blank st.column })) (refl, refl) h.parts w
lay_merges o {brk} k HardLine i Break rest st {v} {u} {q} h w = merges_to v [] q u (brk HardLine i Break rest st) h.parts
    ((k.unloads HardLine i Break rest).merges st q w)
lay_merges o k HardLine i Flat rest st h w = tt
lay_merges o {brk} k WeakLine i m rest st {v} {u} {q} h w =
    merges_to v [] q u (brk WeakLine i m rest st) h.parts ((k.unloads WeakLine i m rest).merges st q w)
lay_merges o {brk} k (Append x y) i m rest st {v} {u} {q} h w =
    rw (h.parts.6, h.parts.7, ← append_assoc q h.parts.1 h.parts.3)
    (merges-then h.parts.0 (q ++ h.parts.1) h.parts.2 h.parts.3 (lay o brk x i m (entry i y ∷ rest) st) (λ z. lay o brk y i m rest z)
    (lay_merges o k x i m (entry i y ∷ rest) st (record { parts = h.parts.4; depth = omega (arith, h.depth) }) w)
    (λ z r e. lay_merges o k y i m rest z (record { parts = h.parts.5; depth = omega (arith, h.depth) }) e))
lay_merges o k (LineSuffix d) i m rest st {v} {u} {q} h w = (
  [],
  q ++ u,
  refl,
  rw h.parts.0 (refl, refl),
  record {
    spelled = spells_one_more st.pending d q u w.spelled h.parts.1;
    depth = depth_one_more st.pending d w.depth (omega (arith, h.depth));
  },
)
lay_merges o k (Indented how d) i m rest st h w =
    lay_merges o k d (indent_by how i st.column) m rest st (record { parts = h.parts; depth = h.depth }) w
lay_merges o k ExpandParent i m rest st {v} {u} {q} h w = merges_piece v [] q u st (Done [] st) (refl, refl) h.parts w
lay_merges o k (Flatten d) i m rest st h w = lay_merges o k d i Flat rest st (record { parts = h.parts; depth = h.depth }) w
lay_merges o k (BreakOrFlat x y) i Break rest st h w =
    lay_merges o k x i Break rest st (record { parts = h.parts.0; depth = omega (arith, h.depth) }) w
lay_merges o k (BreakOrFlat x y) i Flat rest st h w =
    lay_merges o k y i Flat rest st (record { parts = h.parts.1; depth = omega (arith, h.depth) }) w
lay_merges o k (Group d) i m rest st h w =
    lay_merges o k d i (by_mode m (if probe o d i Flat rest st then Flat else Break) Flat) rest st
    (record { parts = h.parts; depth = h.depth }) w
lay_merges o {brk} k (Union x y) i Break rest st {v} {u} {q} h w =
    holds-accept (Merges v (q ++ u)) (λ b z was e. e) o st.within (lay o brk x i Break rest (in_trial st)) (lay o brk y i Break rest st)
    (lay_merges o k x i Break rest (in_trial st) (record { parts = h.parts.0; depth = omega (arith, h.depth) }) w)
    (lay_merges o k y i Break rest st (record { parts = h.parts.1; depth = omega (arith, h.depth) }) w)
lay_merges o k (Union x y) i Flat rest st h w =
    lay_merges o k x i Flat rest st (record { parts = h.parts.0; depth = omega (arith, h.depth) }) w
lay_merges o {brk} k (PartialUnion x y) i Break rest st {v} {u} {q} h w =
    holds-either (Merges v (q ++ u)) (probe o x i Break rest st) (lay o brk x i Break rest st) (lay o brk y i Break rest st)
    (lay_merges o k x i Break rest st (record { parts = h.parts.0; depth = omega (arith, h.depth) }) w)
    (lay_merges o k y i Break rest st (record { parts = h.parts.1; depth = omega (arith, h.depth) }) w)
lay_merges o k (PartialUnion x y) i Flat rest st h w =
    lay_merges o k x i Flat rest st (record { parts = h.parts.0; depth = omega (arith, h.depth) }) w
lay_merges o {brk} k (Chosen test x y) i m rest st {v} {u} {q} h w =
    holds-either (Merges v (q ++ u)) (choice_holds test (prospective st.column) i) (lay o brk x i m rest st) (lay o brk y i m rest st)
    (lay_merges o k x i m rest st (record { parts = h.parts.0; depth = omega (arith, h.depth) }) w)
    (lay_merges o k y i m rest st (record { parts = h.parts.1; depth = omega (arith, h.depth) }) w)

-- ---- documents in a row

-- documents in a row, each with no line suffix, write what they spell before what waits already
each_merges : (o : RenderOptions) {brk : Breaks} → WritesPending brk → (ds : List Tree) (i : ℕ) (m : Mode) (rest : List Entry)
    (st : State) {w q : List ℕ} → SpelledInRow ds w → PendingSpell st q → Merges w q (lay_each o brk ds i m rest st)
unfolding lay_each
each_merges o k [] i m rest st {w} {q} h e = merges_writes w q st (Done [] st) (sym h.spelled, refl) e
each_merges o {brk} k (d ∷ ds) i m rest st {w} {q} h e =
    let first : Merges h.spelled.0 (q ++ []) (lay o brk d i m (entries i ds ++ rest) st) =
    lay_merges o k d i m (entries i ds ++ rest) st (record {
      parts = parts_in_order d h.spelled.0 h.spelled.2 (omega (arith, h.depth));
      depth = omega (arith, h.depth);
    }) e in
    rw h.spelled.4
    (merges-next h.spelled.0 q h.spelled.1 (lay o brk d i m (entries i ds ++ rest) st) (λ u. lay_each o brk ds i m rest u)
    (rw (append-nil q) at first)
    (λ u r f. each_merges o k ds i m rest u (record { spelled = h.spelled.3; depth = omega (arith, h.depth) }) f))

-- ---- what waits, breaks and the end

-- what waits is written, and then what goes on writes what waits still
waiting_merges : (o : RenderOptions) {brk : Breaks} → WritesPending brk → {ps : List Tree} (i : ℕ) (m : Mode) (rest : List Entry)
    (st : State) {again : State → Outcome} {q : List ℕ} → SpelledInRow ps q → Unloads again
    → Merges [] q (after_bytes (spaces (gap st.column)) (and_then (lay_each o brk ps i m rest (flushed o st)) again))
waiting_merges o {brk} k {ps} i m rest st {again} {q} h g =
    merges-after (spaces (gap st.column)) [] q (and_then (lay_each o brk ps i m rest (flushed o st)) again) (ink-spaces (gap st.column))
    (merges-next [] q [] (lay_each o brk ps i m rest (flushed o st)) again
    (merges_late q (lay_each o brk ps i m rest (flushed o st))
    (each_merges o k ps i m rest (flushed o st) h (record { spelled = refl; depth = refl })))
    g.merges)

break_merges : (o : RenderOptions) {brk : Breaks} → WritesPending brk → (ps : List Tree) (d : Tree) (i : ℕ) (m : Mode) (rest : List Entry)
    (st : State) {q : List ℕ} → SpelledInRow ps q → PendingSpell st q
    → Merges [] q (break_with o brk ps d i m rest st)
break_merges o k [] d i m rest st {q} h w = merges_writes [] q st (plain_break o d i rest st) (plain_writes o d i rest st) w
break_merges o k (p ∷ ps) d i m rest st h w =
    waiting_merges o k i m (entry i d ∷ rest) st h (k.unloads d i m rest)

breaks_merge : (o : RenderOptions) (n : ℕ) → WritesPending (breaks o n)
unfolding breaks
breaks_merge o zero = record { unloads = λ d i m rest. record { merges = λ st q w. tt } }
breaks_merge o (suc n) = record {
  unloads = λ d i m rest. record { merges = λ st q w. break_merges o (breaks_merge o n) st.pending d i m rest st w w };
}

end_merges : (o : RenderOptions) {brk : Breaks} → WritesPending brk → {again : State → Outcome} → Unloads again → (ps : List Tree)
    (st : State) {q : List ℕ} → SpelledInRow ps q → PendingSpell st q → Merges [] q (end_with o brk again ps st)
end_merges o k g [] st {q} h w = merges_writes [] q st (Done [] st) (refl, refl) w
end_merges o k g (p ∷ ps) st h w = waiting_merges o k 0 Break [] st h g

finish_merges : (o : RenderOptions) {brk : Breaks} → WritesPending brk → (n : ℕ) → Unloads (finish o brk n)
unfolding finish
finish_merges o k zero = record { merges = λ st q w. tt }
finish_merges o k (suc n) = record { merges = λ st q w. end_merges o k (finish_merges o k n) st.pending st w w }

-- ---- the whole layout

layout_by_merges : (o : RenderOptions) (n : ℕ) (d : Tree) (v u : List ℕ) → spelled_parts d v u → suffix_depth d ≤ 1 →
    Merges v u (layout_by o n d)
unfolding layout_by
layout_by_merges o n d v u h l =
    let whole = merges-next v u [] (lay o (breaks o n) d 0 Break [] initial) (finish o (breaks o n) n)
    (lay_merges o (breaks_merge o n) d 0 Break [] initial (record { parts = h; depth = l }) (record { spelled = refl; depth = refl }))
    (finish_merges o (breaks_merge o n) n).merges in
    rw (append-nil v) at whole

whole_merges : (x : Outcome) (v u b : List ℕ) → Merges v u x → NothingPending x → bytes_of x ≡ Whole b → IsMerge (ink b) v u
whole_merges (Done c st) v u b h s e =
    let same : c ≡ b = cc in
    let none : spells (row []) h.1 = rw s at h.4.spelled in
    rw (← same, h.2, none, append-nil) h.3
whole_merges (Failed c) v u b h s e = absurd (cc)

pub content_merged : (o : RenderOptions) (d : Tree) (v u b : List ℕ) → spelled_parts d v u → suffix_depth d ≤ 1 → layout o d ≡ Whole b
    → IsMerge (ink b) v u
unfolding layout
content_merged o d v u b h l e =
    whole_merges (layout_by o (size d + 1) d) v u b (layout_by_merges o (size d + 1) d v u h l) (layout_by_ends o (size d + 1) d) e

pub content_in_order : (o : RenderOptions) (d : Tree) (w b : List ℕ) → spells d w → suffix_depth d ≡ 0 → layout o d ≡ Whole b → ink b ≡ w
content_in_order o d w b h l e =
    merge_with_none (ink b) w [] refl (content_merged o d w [] b (parts_in_order d w h l) (omega arith) e)
