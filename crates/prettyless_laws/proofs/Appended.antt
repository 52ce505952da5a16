-- A document at the end of another's right arms: the two are read and laid as their `Append`, and so a probe has the
-- same result at a regrouped document.
use Rattle.std.proofs.Common.{◌≡◌, ℕ, List, ◌∷◌, refl, ap, sym, ◌∙◌, Bool}
use Rattle.prettyless_model.specs.declared.options.RenderOptions.{RenderOptions}
use Rattle.prettyless_model.specs.Tree.{Tree, Append, Indented, Flatten, BreakOrFlat, Group, Union, PartialUnion, Chosen}
use Rattle.prettyless_model.specs.Choice.{choice_holds}
use Rattle.prettyless_model.specs.Column.{prospective}
use Rattle.prettyless_model.specs.Indent.{indent_by}
use Rattle.prettyless_model.specs.Look.{Look, answer_of, look, look_then}
use Rattle.prettyless_model.specs.Layout.{State, Entry, Breaks, and_then, lay, entry, rest_fits}
use Rattle.prettyless_model.specs.declared.column.Column.{Column}
use Rattle.prettyless_model.specs.declared.mode.Mode.{Mode}
use Rattle.prettyless_model.specs.declared.mode.Mode.TheVariants.{Break, Flat}
use Rattle.prettyless_model.proofs.Looks.{answer-then, look-each, look-either, look-same, look-then-then}
use Rattle.prettyless_model.proofs.Outcomes.{then-then}
use Rattle.prettyless_laws.specs.Regrouped.{appended, right}
use Rattle.prettyless_laws.specs.Parts.{FollowAlike, ReadsAlike}
use Rattle.prettyless_laws.proofs.Following.{then-same, lay_alike}

-- what holds of each tree and its `Append` before r, and goes past a left arm, holds of what is appended
appended_by : (P : Tree → Tree → Type 0) (r : Tree) → ((l : Tree) → P l (Append l r))
    → ((a b : Tree) → P b (appended b r) → P (Append a b) (Append a (appended b r))) → (l : Tree) → P l (appended l r)
appended_by P r f g (Append a b) = g a b (appended_by P r f g b)
appended_by P r f g l = f l

-- the result of a probe at one document after another
abbrev in_turn : ℕ → Tree → Tree → ℕ → Mode → Column → Bool → Look
in_turn w l r i m c p = look_then (look w l i m c p) (λ e q. look w r i m e q)

appended_looks : (w : ℕ) (l r : Tree) (i : ℕ) (m : Mode) (c : Column) (p : Bool) → look w (appended l r) i m c p ≡ in_turn w l r i m c p
appended_looks w l r i m =
    appended_by (λ x y. (c : Column) (p : Bool) → look w y i m c p ≡ in_turn w x r i m c p) r (λ x c p. refl)
    (λ a b h c p.
    look-each (look w a i m c p) (λ e q. look w (appended b r) i m e q) (λ e q. in_turn w b r i m e q) h
    ∙ sym (look-then-then (look w a i m c p) (λ e q. look w b i m e q) (λ e q. look w r i m e q))) l

-- the second tree is laid as the first one and then r
abbrev LaidBefore : RenderOptions → Breaks → Tree → Tree → Tree → Type 0
LaidBefore o brk r l t = (i : ℕ) (m : Mode) (s : List Entry) (st : State)
    → lay o brk t i m s st ≡ and_then (lay o brk l i m (entry i r ∷ s) st) (λ u. lay o brk r i m s u)

-- what follows a left arm is alike in both groupings
alike_appended : (i : ℕ) (b r : Tree) (s : List Entry) → FollowAlike (entry i (appended b r) ∷ s) (entry i b ∷ entry i r ∷ s)
alike_appended i b r s = (
  λ j. refl,
  λ w c p.
      ap (λ (x : Look). answer_of x (λ e q. rest_fits w s e q)) (appended_looks w b r i Break c p)
      ∙ answer-then (look w b i Break c p) (λ e q. look w r i Break e q) (λ e q. rest_fits w s e q),
)

past_left : (o : RenderOptions) (brk : Breaks) → ReadsAlike brk → (r a b : Tree) → LaidBefore o brk r b (appended b r)
    → LaidBefore o brk r (Append a b) (Append a (appended b r))
unfolding lay
past_left o brk k r a b h = λ i m s st.
    then-same (lay o brk a i m (entry i (appended b r) ∷ s) st) (lay o brk a i m (entry i b ∷ entry i r ∷ s) st)
    (λ u. lay o brk (appended b r) i m s u) (λ u. and_then (lay o brk b i m (entry i r ∷ s) u) (λ v. lay o brk r i m s v))
    (lay_alike o brk k a i m (entry i (appended b r) ∷ s) (entry i b ∷ entry i r ∷ s) st (alike_appended i b r s))
    (h i m s)
    ∙ sym (then-then (lay o brk a i m (entry i b ∷ entry i r ∷ s) st) (λ u. lay o brk b i m (entry i r ∷ s) u) (λ v. lay o brk r i m s v))

pub appended_lays : (o : RenderOptions) (brk : Breaks) → ReadsAlike brk → (l r : Tree) → LaidBefore o brk r l (appended l r)
unfolding lay
appended_lays o brk k l r = appended_by (LaidBefore o brk r) r (λ x i m s st. refl) (past_left o brk k r) l

pub right_looks : (d : Tree) (w i : ℕ) (m : Mode) (c : Column) (p : Bool) → look w (right d) i m c p ≡ look w d i m c p
right_looks (Append l r) w i m c p =
    appended_looks w (right l) (right r) i m c p
    ∙ look-same (look w (right l) i m c p) (look w l i m c p) (λ e q. look w (right r) i m e q) (λ e q. look w r i m e q)
    (right_looks l w i m c p) (λ e q. right_looks r w i m e q)
right_looks (Indented how d) w i m c p = right_looks d w (indent_by how i c) m c p
right_looks (Flatten d) w i m c p = right_looks d w i Flat c p
right_looks (BreakOrFlat b f) w i Break c p = right_looks b w i Break c p
right_looks (BreakOrFlat b f) w i Flat c p = right_looks f w i Flat c p
right_looks (Group d) w i m c p = right_looks d w i m c p
right_looks (Union l r) w i Break c p = right_looks r w i Break c p
right_looks (Union l r) w i Flat c p = right_looks l w i Flat c p
right_looks (PartialUnion l r) w i Break c p = right_looks r w i Break c p
right_looks (PartialUnion l r) w i Flat c p = right_looks l w i Flat c p
right_looks (Chosen test y n) w i m c p =
    look-either (choice_holds test (prospective c) i) (look w (right y) i m c p) (look w (right n) i m c p) (look w y i m c p)
    (look w n i m c p)
    (right_looks y w i m c p) (right_looks n w i m c p)
right_looks _ w i m c p = refl
