-- Inline documents: on a flat line they are one text, and so are their groups where that text fits.
use Rattle.std.proofs.Common.{◌≡◌, ℕ, ◌+◌, ◌<◌, ◌≤◌, arith, List, [], ◌∷◌, ◌++◌, length, refl, ap, ap₂, sym, ◌∙◌, append_assoc, Bool, true}
use Rattle.std.proofs.Common.{false, ◌&&◌, nat_le, if◌then◌else◌}
use Rattle.std.proofs.lemmas.Bool.{le-leb, leb-true, lt-leb}
use Rattle.prettyless_model.specs.Spaces.{spaces}
use Rattle.prettyless_model.specs.declared.options.RenderOptions.{RenderOptions}
use Rattle.prettyless_model.specs.Tree.{Tree, Nil, Text, TextWithLen, Append, Indented, Flatten, BreakOrFlat, Group, Union, PartialUnion}
use Rattle.prettyless_model.specs.Column.{commit, gap, prospective, saturating_add}
use Rattle.prettyless_model.specs.Indent.{indent_by}
use Rattle.prettyless_model.specs.Look.{Look, Answers, GoesOn, answer_of, look, look_text, look_then}
use Rattle.prettyless_model.specs.Layout.{State, Done, Entry, Breaks, and_then, entry, lay, lay_text, probe, rest_fits, some_pending}
use Rattle.prettyless_model.specs.declared.column.Column.{Column}
use Rattle.prettyless_model.specs.declared.mode.Mode.TheVariants.{Break, Flat}
use Rattle.prettyless_model.proofs.Looks.{look-same}
use Rattle.prettyless_model.proofs.Outcomes.{after-nil}
use Rattle.prettyless_laws.specs.Parts.{IsInline, flat_bytes, text_columns, flat_columns, text_fits, InlineIsLaidAsOneText}
use Rattle.prettyless_laws.specs.Parts.{InlineIsSeenAsOneText, GroupsThatFitAreOneText, GroupsThatDoNotFitAreBroken, WideGroupsAreBroken}
use Rattle.prettyless_laws.specs.Parts.{WideBeginningsBreakGroups}
use Rattle.prettyless_laws.proofs.FlatLines.{group_is_flat}
use Rattle.prettyless_laws.proofs.Following.{then-same}

-- ---- widths

-- a text that is empty has no width
abbrev IsMeasured : ℕ → List ℕ → Type 0
IsMeasured w s = text_columns w s ≡ w

measured-text : (s : List ℕ) → IsMeasured (length s) s
measured-text [] = refl
measured-text (b ∷ bs) = refl

measured-columns : (w : ℕ) (s : List ℕ) → IsMeasured (text_columns w s) s
measured-columns w [] = refl
measured-columns w (b ∷ bs) = refl

measured-append : {w v : ℕ} (s t : List ℕ) → IsMeasured w s → IsMeasured v t → IsMeasured (w + v) (s ++ t)
measured-append [] [] h k = ap₂ (λ (x y : ℕ). x + y) h k
measured-append [] (c ∷ cs) h k = refl
measured-append (b ∷ bs) t h k = refl

measured : (d : Tree) → IsMeasured (flat_columns d) (flat_bytes d)
measured (Text s) = measured-text s
measured (TextWithLen w s) = measured-columns w s
measured (Append l r) = measured-append (flat_bytes l) (flat_bytes r) (measured l) (measured r)
measured (Indented how d) = measured d
measured (Flatten d) = measured d
measured (BreakOrFlat b f) = measured f
measured (Group d) = measured d
measured (Union l r) = measured l
measured (PartialUnion l r) = measured l
measured _ = refl

-- ---- one text after another

sum_twice : (n w v : ℕ) → saturating_add (saturating_add (saturating_add (saturating_add n w) 0) 0) v ≡ saturating_add n (w + v)
sum_twice n w v = omega arith

sum_grows : (n w v : ℕ) → saturating_add n w ≤ saturating_add n (w + v)
sum_grows n w v = omega arith

sum_passes : (width n w : ℕ) → width < saturating_add 0 w → width < saturating_add n w
sum_passes width n w h = omega arith

abbrev committed_at : ℕ → Column
committed_at n = record { position = n; indent = 0; padding = 0; fresh = false }

commit_twice : (w v : ℕ) (c : Column) → commit v (commit w c) ≡ commit (w + v) c
commit_twice w v c = ap committed_at (sum_twice (prospective c) w v)

-- the first of two tests that the second implies
both-second : (s t : Bool) → (t ≡ true → s ≡ true) → s && t ≡ t
both-second true t h = refl
both-second false true h = h refl
both-second false false h = refl

-- where the longer of two texts ends within the width, the shorter one does
within_shorter : (width w v : ℕ) (c : Column) → nat_le (commit (w + v) c).position width ≡ true → nat_le (commit w c).position width ≡ true
within_shorter width w v c h =
    let longer : (commit (w + v) c).position ≤ width = leb-true (commit (w + v) c).position width h in
    let grows = sum_grows (prospective c) w v in
    le-leb (commit w c).position width (omega arith)

after-both : (was s t : Bool) → s && t ≡ t → (was && s) && t ≡ was && t
after-both true s t h = h
after-both false s t h = refl

-- a state after a text
abbrev moved : State → Column → Bool → State
moved st c within = record st { column = c; within = within }

moved-twice : (o : RenderOptions) (w v : ℕ) (st : State) → moved st (commit v (commit w st.column))
    ((st.within && nat_le (commit w st.column).position o.width) && nat_le (commit v (commit w st.column)).position o.width) ≡ moved st
    (commit (w + v) st.column) (st.within && nat_le (commit (w + v) st.column).position o.width)
moved-twice o w v st =
    let shorter = nat_le (commit w st.column).position o.width in
    ap (λ (c : Column). moved st c ((st.within && shorter) && nat_le c.position o.width)) (commit_twice w v st.column)
    ∙ ap (moved st (commit (w + v) st.column))
    (after-both st.within shorter (nat_le (commit (w + v) st.column).position o.width)
    (both-second shorter (nat_le (commit (w + v) st.column).position o.width) (within_shorter o.width w v st.column)))

no-more : (w v : ℕ) → 0 ≡ v → w ≡ w + v
no-more w v h = omega arith

none-before : (w v : ℕ) → 0 ≡ w → v ≡ w + v
none-before w v h = omega arith

texts_joined : (o : RenderOptions) {w v : ℕ} (s t : List ℕ) (st : State) → IsMeasured w s → IsMeasured v t
    → and_then (lay_text o w s st) (λ u. lay_text o v t u) ≡ lay_text o (w + v) (s ++ t) st
texts_joined o {w} {v} [] t st h k =
    after-nil (lay_text o v t st) ∙ ap (λ (x : ℕ). lay_text o x t st) (none-before w v h)
texts_joined o {w} {v} (b ∷ bs) [] st h k =
    ap₂ Done (append_assoc (spaces (gap st.column)) (b ∷ bs) [])
    (ap (λ (x : ℕ). moved st (commit x st.column) (st.within && nat_le (commit x st.column).position o.width)) (no-more w v k))
texts_joined o {w} {v} (b ∷ bs) (c ∷ cs) st h k =
    ap₂ Done (append_assoc (spaces (gap st.column)) (b ∷ bs) (c ∷ cs)) (moved-twice o w v st)

-- a look that goes on by a test, or answers no
abbrev on_by : Bool → Column → Bool → Look
on_by t c p = if t then GoesOn c p else Answers false

on-alone : (t : Bool) (c : Column) (p : Bool) → look_then (on_by t c p) (λ e q. GoesOn e q) ≡ on_by t c p
on-alone true c p = refl
on-alone false c p = refl

on-twice : (f : Column → Bool) (g : Column → Column) (s : Bool) (c : Column) (p : Bool) → s && f (g c) ≡ f (g c)
    → look_then (on_by s c p) (λ e q. on_by (f (g e)) (g e) q) ≡ on_by (f (g c)) (g c) p
on-twice f g true c p h = refl
on-twice f g false c p h = ap (λ (t : Bool). on_by t (g c) p) h

looks_joined : (width : ℕ) {w v : ℕ} (s t : List ℕ) (c : Column) (p : Bool) → IsMeasured w s → IsMeasured v t
    → look_then (look_text width w s c p) (λ e q. look_text width v t e q) ≡ look_text width (w + v) (s ++ t) c p
looks_joined width {w} {v} [] t c p h k = ap (λ (x : ℕ). look_text width x t c p) (none-before w v h)
looks_joined width {w} {v} (b ∷ bs) [] c p h k =
    on-alone (nat_le (commit w c).position width) (commit w c) p
    ∙ ap (λ (x : ℕ). on_by (nat_le (commit x c).position width) (commit x c) p) (no-more w v k)
looks_joined width {w} {v} (b ∷ bs) (x ∷ xs) c p h k =
    let shorter = nat_le (commit w c).position width in
    let twice = commit_twice w v c in
    let within : shorter && nat_le (commit v (commit w c)).position width ≡ nat_le (commit v (commit w c)).position width =
    both-second shorter (nat_le (commit v (commit w c)).position width)
    (λ e. within_shorter width w v c (ap (λ (z : Column). nat_le z.position width) (sym twice) ∙ e)) in
    on-twice (λ (z : Column). nat_le z.position width) (commit v) shorter (commit w c) p within
    ∙ ap (λ (z : Column). on_by (nat_le z.position width) z p) twice

-- ---- inline documents

pub lay_inline : InlineIsLaidAsOneText
unfolding lay
lay_inline o brk Nil i rest st h = refl
lay_inline o brk (Text s) i rest st h = refl
lay_inline o brk (TextWithLen w []) i rest st h = refl
lay_inline o brk (TextWithLen w (b ∷ bs)) i rest st h = refl
lay_inline o brk (Append l r) i rest st h =
    then-same _ _ _ _
    (lay_inline o brk l i (entry i r ∷ rest) st h.0)
    (λ u. lay_inline o brk r i rest u h.1)
    ∙ texts_joined o (flat_bytes l) (flat_bytes r) st (measured l) (measured r)
lay_inline o brk (Indented how d) i rest st h = lay_inline o brk d (indent_by how i st.column) rest st h
lay_inline o brk (Flatten d) i rest st h = lay_inline o brk d i rest st h
lay_inline o brk (BreakOrFlat b f) i rest st h = lay_inline o brk f i rest st h
lay_inline o brk (Group d) i rest st h = lay_inline o brk d i rest st h
lay_inline o brk (Union l r) i rest st h = lay_inline o brk l i rest st h
lay_inline o brk (PartialUnion l r) i rest st h = lay_inline o brk l i rest st h
lay_inline o brk _ i rest st h = absurd h

pub look_inline : InlineIsSeenAsOneText
look_inline width Nil i c p h = refl
look_inline width (Text s) i c p h = refl
look_inline width (TextWithLen w []) i c p h = refl
look_inline width (TextWithLen w (b ∷ bs)) i c p h = refl
look_inline width (Append l r) i c p h =
    look-same _ _ _ _
    (look_inline width l i c p h.0)
    (λ e q. look_inline width r i e q h.1)
    ∙ looks_joined width (flat_bytes l) (flat_bytes r) c p (measured l) (measured r)
look_inline width (Indented how d) i c p h = look_inline width d (indent_by how i c) c p h
look_inline width (Flatten d) i c p h = look_inline width d i c p h
look_inline width (BreakOrFlat b f) i c p h = look_inline width f i c p h
look_inline width (Group d) i c p h = look_inline width d i c p h
look_inline width (Union l r) i c p h = look_inline width l i c p h
look_inline width (PartialUnion l r) i c p h = look_inline width l i c p h
look_inline width _ i c p h = absurd h

-- ---- groups

on-answer : (t : Bool) (c : Column) (p : Bool) (next : Column → Bool → Bool) → answer_of (on_by t c p) next ≡ t && next c p
on-answer true c p next = refl
on-answer false c p next = refl

text_seen : (o : RenderOptions) (w : ℕ) (s : List ℕ) (rest : List Entry) (st : State)
    → answer_of (look_text o.width w s st.column (some_pending st.pending)) (λ c p. rest_fits o.width rest c p) ≡ text_fits o w s rest st
text_seen o w [] rest st = refl
text_seen o w (b ∷ bs) rest st =
    on-answer (nat_le (commit w st.column).position o.width) (commit w st.column) (some_pending st.pending)
    (λ c p. rest_fits o.width rest c p)

probe_seen : (o : RenderOptions) (d : Tree) (i : ℕ) (rest : List Entry) (st : State) → IsInline d → probe o d i Flat rest st ≡ text_fits o
    (flat_columns d) (flat_bytes d) rest st
probe_seen o d i rest st h =
    ap (λ (x : Look). answer_of x (λ c p. rest_fits o.width rest c p)) (look_inline o.width d i st.column (some_pending st.pending) h)
    ∙ text_seen o (flat_columns d) (flat_bytes d) rest st

pub group_is_text : GroupsThatFitAreOneText
group_is_text o brk d i m rest st h e =
    group_is_flat o brk d i m rest st (probe_seen o d i rest st h ∙ e) ∙ lay_inline o brk d i rest st h

pub group_is_broken : (o : RenderOptions) (brk : Breaks) (d : Tree) (i : ℕ) (rest : List Entry) (st : State)
    → probe o d i Flat rest st ≡ false → lay o brk (Group d) i Break rest st ≡ lay o brk d i Break rest st
unfolding lay
group_is_broken o brk d i rest st e = ap (λ (t : Bool). lay o brk d i (if t then Flat else Break) rest st) e

pub unfit_is_broken : GroupsThatDoNotFitAreBroken
unfit_is_broken o brk d i rest st h e = group_is_broken o brk d i rest st (probe_seen o d i rest st h ∙ e)

-- a text that is wider than the width fits nowhere
wide_text : (width w : ℕ) (s : List ℕ) (c : Column) (p : Bool) → IsMeasured w s → width < saturating_add 0 w
    → look_text width w s c p ≡ Answers false
wide_text width w [] c p h e =
    let none : 0 ≡ w = h in
    absurd (omega arith)
wide_text width w (b ∷ bs) c p h e =
    ap (λ (t : Bool). on_by t (commit w c) p) (lt-leb (commit w c).position width (sum_passes width (prospective c) w e))

wide_inline : (width : ℕ) (d : Tree) (i : ℕ) (c : Column) (p : Bool) → IsInline d → width < saturating_add 0 (flat_columns d)
    → look width d i Flat c p ≡ Answers false
wide_inline width d i c p h e = look_inline width d i c p h ∙ wide_text width (flat_columns d) (flat_bytes d) c p (measured d) e

pub wide_is_broken : WideGroupsAreBroken
wide_is_broken o brk d i rest st h e =
    group_is_broken o brk d i rest st
    (ap (λ (x : Look). answer_of x (λ c p. rest_fits o.width rest c p)) (wide_inline o.width d i st.column (some_pending st.pending) h e))

pub wide_beginning : WideBeginningsBreakGroups
wide_beginning o brk l r i rest st h e =
    group_is_broken o brk (Append l r) i rest st
    (ap (λ (x : Look). answer_of (look_then x (λ c p. look o.width r i Flat c p)) (λ c p. rest_fits o.width rest c p))
    (wide_inline o.width l i st.column (some_pending st.pending) h e))
