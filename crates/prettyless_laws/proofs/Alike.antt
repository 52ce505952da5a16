-- Columns that are alike: content would begin at the same place after the same weak spaces. What is read of them agrees.
use Rattle.std.proofs.Common.{◌≡◌, ℕ, length, subst, ◌+◌, ◌-◌, ◌^◌, List, [], ◌∷◌, refl, ap, ap₂, ◌∙◌, min, arith, Bool, true, false, not}
use Rattle.std.proofs.Common.{◌&&◌, ◌||◌, ◌==◌, nat_le, if◌then◌else◌}
use Rattle.prettyless_model.specs.declared.options.RenderOptions.{RenderOptions}
use Rattle.prettyless_model.specs.Tree.{Tree, Fail, Text, TextWithLen, MultilineText, WeakSpace, HardLine, WeakLine, Append, Indented}
use Rattle.prettyless_model.specs.Tree.{ExpandParent, Flatten, BreakOrFlat, Group, Union, PartialUnion, Chosen}
use Rattle.prettyless_model.specs.Column.{saturating_add, prospective, commit, blank, padding_fits}
use Rattle.prettyless_model.specs.Indent.{indent_by}
use Rattle.prettyless_model.specs.declared.kind.Indenting.{Indenting}
use Rattle.prettyless_model.specs.declared.kind.Indenting.TheVariants.{Align}
use Rattle.prettyless_model.specs.Choice.{choice_holds}
use Rattle.prettyless_model.specs.Look.{Look, Answers, GoesOn, answer_of, by_mode, look, look_end, look_text, look_then}
use Rattle.prettyless_model.specs.Metrics.{metrics}
use Rattle.prettyless_model.specs.Layout.{State, Entry, payload_fits, some_pending, rest_fits, probe, flushed, is_suppressed}
use Rattle.prettyless_model.specs.declared.column.Column.{Column}
use Rattle.prettyless_model.specs.declared.metrics.Metrics.{Metrics}
use Rattle.prettyless_model.specs.declared.mode.Mode.{Mode}
use Rattle.prettyless_model.specs.declared.mode.Mode.TheVariants.{Break, Flat}

-- ---- columns and states

-- columns that may differ in what is written of an indent
pub record Alike (c e : Column) : Type 0 where
  pub fresh : c.fresh ≡ e.fresh
  pub padding : c.padding ≡ e.padding
  pub place : saturating_add c.position c.indent ≡ saturating_add e.position e.indent

-- states that may differ in that
pub record AlikeStates (s u : State) : Type 0 where
  pub column : Alike s.column u.column
  pub pending : s.pending ≡ u.pending
  pub within : s.within ≡ u.within

pub alike_equal : (c e : Column) → c ≡ e → Alike c e
alike_equal c e h = record {
  fresh = ap (λ (x : Column). x.fresh) h;
  padding = ap (λ (x : Column). x.padding) h;
  place = ap (λ (x : Column). saturating_add x.position x.indent) h;
}

-- ---- texts, spaces and line ends in a column

pub prospective_alike : (c e : Column) → Alike c e → prospective c ≡ prospective e
prospective_alike c e h = ap₂ saturating_add h.place h.padding

-- a node sets the same indent at both
pub indent_alike : (how : Indenting) (i : ℕ) (c e : Column) → Alike c e → indent_by how i c ≡ indent_by how i e
indent_alike Align i c e h = prospective_alike c e h
indent_alike _ i c e h = refl

abbrev committed_at : ℕ → ℕ → Column
committed_at w n = record { position = saturating_add n w; indent = 0; padding = 0; fresh = false }

pub commit_alike : (w : ℕ) (c e : Column) → Alike c e → commit w c ≡ commit w e
commit_alike w c e h = ap (committed_at w) (prospective_alike c e h)

blank_fields : (p i g q j k : ℕ) (f t : Bool) → Alike (record { position = p; indent = i; padding = g; fresh = f })
    (record { position = q; indent = j; padding = k; fresh = t })
    → Alike (blank (record { position = p; indent = i; padding = g; fresh = f }))
    (blank (record { position = q; indent = j; padding = k; fresh = t }))
blank_fields p i g q j k true true h = h
blank_fields p i g q j k false false h = record { fresh = refl; padding = ap (λ (x : ℕ). saturating_add x 1) h.padding; place = h.place }
blank_fields p i g q j k true false h = absurd (cc h.fresh)
blank_fields p i g q j k false true h = absurd (cc h.fresh)

pub blank_alike : (c e : Column) → Alike c e → Alike (blank c) (blank e)
blank_alike c e h = blank_fields c.position c.indent c.padding e.position e.indent e.padding c.fresh e.fresh h

pub ending_alike : (k : ℕ) → saturating_add k 0 ≡ saturating_add 0 k
ending_alike k =
    let e : k + 0 ≡ 0 + k = omega arith in
    ap (λ (x : ℕ). min x (2 ^ 64 - 1)) e

pub padding_fits_alike : (w : ℕ) (b : Bool) (c e : Column) → Alike c e → padding_fits w b c ≡ padding_fits w b e
padding_fits_alike w b c e h = ap₂ (λ (x y : ℕ). not b || (x == 0) || nat_le y w) h.padding (prospective_alike c e h)

-- ---- looks

-- looks with one answer, or columns that are alike after them
abbrev pub AlikeLooks : Look → Look → Type 0
AlikeLooks (Answers a) (Answers b) = a ≡ b
AlikeLooks (Answers a) (GoesOn e q) = ⊥
AlikeLooks (GoesOn c p) (Answers b) = ⊥
AlikeLooks (GoesOn c p) (GoesOn e q) = Alike c e × (p ≡ q)

looks-same : (x : Look) → AlikeLooks x x
looks-same (Answers a) = refl
looks-same (GoesOn c p) = (alike_equal c c refl, refl)

looks-equal : (x y : Look) → x ≡ y → AlikeLooks x y
looks-equal x y e = rw (← e) (looks-same x)

looks-then : (x y : Look) (f g : Column → Bool → Look) → AlikeLooks x y
    → ((c e : Column) (p : Bool) → Alike c e → AlikeLooks (f c p) (g e p)) → AlikeLooks (look_then x f) (look_then y g)
looks-then (Answers a) (Answers b) f g h k = h
looks-then (Answers a) (GoesOn e q) f g h k = absurd h
looks-then (GoesOn c p) (Answers b) f g h k = absurd h
looks-then (GoesOn c p) (GoesOn e q) f g h k = rw (← h.1) (k c e p h.0)

-- one of two looks, by equal tests
looks-either : (a b : Bool) (x y z w : Look) → a ≡ b → AlikeLooks x z → AlikeLooks y w
    → AlikeLooks (if a then x else y) (if b then z else w)
looks-either true true x y z w e f g = f
looks-either false false x y z w e f g = g
looks-either true false x y z w e f g = absurd (cc e)
looks-either false true x y z w e f g = absurd (cc e)

-- ---- looks at documents

text_alike : (w n : ℕ) (s : List ℕ) (c e : Column) (p : Bool) → Alike c e → AlikeLooks (look_text w n s c p) (look_text w n s e p)
text_alike w n [] c e p h = (h, refl)
text_alike w n (b ∷ bs) c e p h =
    looks-equal (look_text w n (b ∷ bs) c p) (look_text w n (b ∷ bs) e p)
    (ap (λ (x : Column). if nat_le x.position w then GoesOn x p else Answers false) (commit_alike n c e h))

end_alike : (w : ℕ) (m : Mode) (c e : Column) (p : Bool) → Alike c e → AlikeLooks (look_end w m c p) (look_end w m e p)
end_alike w m c e p h = ap (λ (x : Bool). by_mode m x false) (padding_fits_alike w p c e h)

-- the result of a probe from columns that are alike
pub look_alike : (w : ℕ) (d : Tree) (i : ℕ) (m : Mode) (c e : Column) (p : Bool) → Alike c e
    → AlikeLooks (look w d i m c p) (look w d i m e p)
look_alike w Fail i m c e p h = refl
look_alike w (Text s) i m c e p h = text_alike w (length s) s c e p h
look_alike w (TextWithLen n s) i m c e p h = text_alike w n s c e p h
look_alike w (MultilineText s) i m c e p h =
    ap (λ (x : Column). by_mode m (not (metrics s).first_nonempty || nat_le x.position w) false)
    (commit_alike (metrics s).first_width c e h)
look_alike w WeakSpace i m c e p h = (blank_alike c e h, refl)
look_alike w HardLine i m c e p h = end_alike w m c e p h
look_alike w WeakLine i m c e p h =
    looks-either (c.fresh && not p) (e.fresh && not p) (GoesOn c p) (look_end w m c p) (GoesOn e p) (look_end w m e p)
    (ap (λ (x : Bool). x && not p) h.fresh)
    (h, refl)
    (end_alike w m c e p h)
look_alike w (Append l r) i m c e p h =
    looks-then (look w l i m c p) (look w l i m e p) (λ u q. look w r i m u q) (λ u q. look w r i m u q)
    (look_alike w l i m c e p h) (λ u v q k. look_alike w r i m u v q k)
look_alike w (Indented how d) i m c e p h =
    subst (λ (n : ℕ). AlikeLooks (look w d (indent_by how i c) m c p) (look w d n m e p)) (indent_alike how i c e h)
    (look_alike w d (indent_by how i c) m c e p h)
look_alike w ExpandParent i Break c e p h = (h, refl)
look_alike w ExpandParent i Flat c e p h = refl
look_alike w (Flatten d) i m c e p h = look_alike w d i Flat c e p h
look_alike w (BreakOrFlat b f) i Break c e p h = look_alike w b i Break c e p h
look_alike w (BreakOrFlat b f) i Flat c e p h = look_alike w f i Flat c e p h
look_alike w (Group d) i m c e p h = look_alike w d i m c e p h
look_alike w (Union l r) i Break c e p h = look_alike w r i Break c e p h
look_alike w (Union l r) i Flat c e p h = look_alike w l i Flat c e p h
look_alike w (PartialUnion l r) i Break c e p h = look_alike w r i Break c e p h
look_alike w (PartialUnion l r) i Flat c e p h = look_alike w l i Flat c e p h
look_alike w (Chosen test y n) i m c e p h =
    looks-either (choice_holds test (prospective c) i) (choice_holds test (prospective e) i) (look w y i m c p) (look w n i m c p)
    (look w y i m e p) (look w n i m e p)
    (ap (λ (x : ℕ). choice_holds test x i) (prospective_alike c e h))
    (look_alike w y i m c e p h)
    (look_alike w n i m c e p h)
-- every other node leaves the column as it is
look_alike w _ i m c e p h = (h, refl)

-- ---- answers of probes

answers-alike : (x y : Look) (f : Column → Bool → Bool) → AlikeLooks x y → ((c e : Column) (p : Bool) → Alike c e → f c p ≡ f e p)
    → answer_of x f ≡ answer_of y f
answers-alike (Answers a) (Answers b) f h k = h
answers-alike (Answers a) (GoesOn e q) f h k = absurd h
answers-alike (GoesOn c p) (Answers b) f h k = absurd h
answers-alike (GoesOn c p) (GoesOn e q) f h k = k c e p h.0 ∙ ap (f e) h.1

pub rest_alike : (w : ℕ) (rest : List Entry) (c e : Column) (p : Bool) → Alike c e → rest_fits w rest c p ≡ rest_fits w rest e p
rest_alike w [] c e p h = padding_fits_alike w p c e h
rest_alike w (x ∷ rest) c e p h =
    answers-alike (look w x.tree x.indent Break c p) (look w x.tree x.indent Break e p) (λ u q. rest_fits w rest u q)
    (look_alike w x.tree x.indent Break c e p h) (λ u v q k. rest_alike w rest u v q k)

pub probe_alike : (o p : RenderOptions) → o.width ≡ p.width → (d : Tree) (i : ℕ) (m : Mode) (rest : List Entry) (s u : State)
    → AlikeStates s u → probe o d i m rest s ≡ probe p d i m rest u
probe_alike o p e d i m rest s u h =
    answers-alike (look o.width d i m s.column (some_pending s.pending)) (look o.width d i m u.column (some_pending s.pending))
    (λ c q. rest_fits o.width rest c q)
    (look_alike o.width d i m s.column u.column (some_pending s.pending) h.column) (λ a b q k. rest_alike o.width rest a b q k)
    ∙ ap₂ (λ (w : ℕ) (ps : List Tree). answer_of (look w d i m u.column (some_pending ps)) (λ c q. rest_fits w rest c q)) e h.pending

-- ---- payloads, pending documents and breaks

pub payload_alike : (o p : RenderOptions) → o.width ≡ p.width → (m : Metrics) (c e : Column) → Alike c e
    → payload_fits o m c ≡ payload_fits p m e
payload_alike o p q m c e h =
    ap₂ (λ (w n : ℕ). (not m.first_nonempty || nat_le (saturating_add n m.first_width) w) && nat_le m.rest_width w) q
    (prospective_alike c e h)

pub flushed_alike : (o p : RenderOptions) → o.width ≡ p.width → (s u : State) → AlikeStates s u → AlikeStates (flushed o s) (flushed p u)
flushed_alike o p e s u h = record {
  column = alike_equal (commit 0 s.column) (commit 0 u.column) (commit_alike 0 s.column u.column h.column);
  pending = refl;
  within = ap₂ (λ (x y : Bool). x && y) h.within
      (padding_fits_alike o.width true s.column u.column h.column ∙ ap (λ (w : ℕ). padding_fits w true u.column) e);
}

pub suppressed_alike : (d : Tree) (c e : Column) → Alike c e → is_suppressed d c ≡ is_suppressed d e
suppressed_alike WeakLine c e h = h.fresh
suppressed_alike _ c e h = refl
