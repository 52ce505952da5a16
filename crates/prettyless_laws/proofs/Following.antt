-- What follows a document: a layout takes of it the indent of the nearest and what a probe finds, and nothing else.
use Rattle.std.proofs.Common.{◌≡◌, ℕ, zero, suc, List, [], ◌∷◌, ◌++◌, refl, ap, ◌∙◌, Bool, if◌then◌else◌}
use Rattle.prettyless_model.specs.Spaces.{spaces}
use Rattle.prettyless_model.specs.declared.options.RenderOptions.{RenderOptions}
use Rattle.prettyless_model.specs.Tree.{Tree, HardLine, WeakLine, Append, Indented, Flatten, BreakOrFlat, Group, Union, PartialUnion}
use Rattle.prettyless_model.specs.Tree.{Chosen}
use Rattle.prettyless_model.specs.Column.{gap, prospective}
use Rattle.prettyless_model.specs.Indent.{indent_by}
use Rattle.prettyless_model.specs.Choice.{choice_holds}
use Rattle.prettyless_model.specs.Look.{by_mode, look}
use Rattle.prettyless_model.specs.Layout.{State, Outcome, Done, Failed, Entry, Breaks, after_bytes, and_then, lay, lay_each, lay_ending}
use Rattle.prettyless_model.specs.Layout.{some_pending, probe, accept, in_trial, is_suppressed, flushed, entry, entries, rest_fits}
use Rattle.prettyless_model.specs.Layout.{break_with}
use Rattle.prettyless_model.specs.Layout.{breaks}
use Rattle.prettyless_model.specs.declared.column.Column.{Column}
use Rattle.prettyless_model.specs.declared.mode.Mode.{Mode}
use Rattle.prettyless_model.specs.declared.mode.Mode.TheVariants.{Break, Flat}
use Rattle.prettyless_model.proofs.Looks.{answer-each, answer-same}
use Rattle.prettyless_model.proofs.Outcomes.{same-either}
use Rattle.prettyless_laws.specs.Parts.{FollowAlike, ReadsAlike}

pub alike_same : (a : List Entry) → FollowAlike a a
alike_same a = (λ i. refl, λ w c p. refl)

-- two documents at which a probe looks alike, at one indent in Break
abbrev pub LooksAlike : ℕ → Tree → Tree → Type 0
LooksAlike i d e = (w : ℕ) (c : Column) (p : Bool) → look w d i Break c p ≡ look w e i Break c p

-- such documents, before what is alike
pub alike_after : (i : ℕ) (d e : Tree) (a b : List Entry) → LooksAlike i d e → FollowAlike a b → FollowAlike (entry i d ∷ a) (entry i e ∷ b)
alike_after i d e a b r h = (
  λ k. refl,
  λ w c p. answer-same (look w d i Break c p) (look w e i Break c p) (λ u q. rest_fits w a u q) (λ u q. rest_fits w b u q)
      (r w c p) (λ u q. h.1 w u q),
)

alike_entries : (i : ℕ) (ds : List Tree) (a b : List Entry) → FollowAlike a b → FollowAlike (entries i ds ++ a) (entries i ds ++ b)
alike_entries i [] a b h = h
alike_entries i (d ∷ ds) a b h = alike_after i d d (entries i ds ++ a) (entries i ds ++ b) (λ w c p. refl) (alike_entries i ds a b h)

then-each : (x : Outcome) (f g : State → Outcome) → ((u : State) → f u ≡ g u) → and_then x f ≡ and_then x g
then-each (Done b st) f g h = ap (after_bytes b) (h st)
then-each (Failed b) f g h = refl

pub then-same : (x y : Outcome) (f g : State → Outcome) → x ≡ y → ((u : State) → f u ≡ g u) → and_then x f ≡ and_then y g
then-same x y f g e h = ap (λ (z : Outcome). and_then z f) e ∙ then-each y f g h

probe_alike : (o : RenderOptions) (d : Tree) (i : ℕ) (m : Mode) (a b : List Entry) (st : State) → FollowAlike a b
    → probe o d i m a st ≡ probe o d i m b st
probe_alike o d i m a b st h =
    answer-each (look o.width d i m st.column (some_pending st.pending)) (λ c p. rest_fits o.width a c p) (λ c p. rest_fits o.width b c p)
    (λ c p. h.1 o.width c p)

-- one of two outcomes, by equal tests
pub either-same : (s t : Bool) (x y z w : Outcome) → s ≡ t → x ≡ z → y ≡ w → (if s then x else y) ≡ (if t then z else w)
either-same s t x y z w e f g =
    ap (λ (b : Bool). if b then x else y) e ∙ ap (λ (v : Outcome). if t then v else y) f ∙ ap (λ (v : Outcome). if t then z else v) g

pub lay_alike : (o : RenderOptions) (brk : Breaks) → ReadsAlike brk → (d : Tree) (i : ℕ) (m : Mode) (a b : List Entry) (st : State)
    → FollowAlike a b → lay o brk d i m a st ≡ lay o brk d i m b st
unfolding lay
lay_alike o brk k HardLine i Break a b st h = k HardLine i Break a b st h
lay_alike o brk k WeakLine i m a b st h = k WeakLine i m a b st h
lay_alike o brk k (Append l r) i m a b st h =
    then-same (lay o brk l i m (entry i r ∷ a) st) (lay o brk l i m (entry i r ∷ b) st) (λ u. lay o brk r i m a u)
    (λ u. lay o brk r i m b u)
    (lay_alike o brk k l i m (entry i r ∷ a) (entry i r ∷ b) st (alike_after i r r a b (λ w c p. refl) h))
    (λ u. lay_alike o brk k r i m a b u h)
lay_alike o brk k (Indented how d) i m a b st h = lay_alike o brk k d (indent_by how i st.column) m a b st h
lay_alike o brk k (Flatten d) i m a b st h = lay_alike o brk k d i Flat a b st h
lay_alike o brk k (BreakOrFlat x y) i Break a b st h = lay_alike o brk k x i Break a b st h
lay_alike o brk k (BreakOrFlat x y) i Flat a b st h = lay_alike o brk k y i Flat a b st h
lay_alike o brk k (Group d) i m a b st h =
    ap (λ (t : Bool). lay o brk d i (by_mode m (if t then Flat else Break) Flat) a st) (probe_alike o d i Flat a b st h)
    ∙ lay_alike o brk k d i (by_mode m (if probe o d i Flat b st then Flat else Break) Flat) a b st h
lay_alike o brk k (Union x y) i Break a b st h =
    ap (λ (z : Outcome). accept o st.within z (lay o brk y i Break a st)) (lay_alike o brk k x i Break a b (in_trial st) h)
    ∙ ap (accept o st.within (lay o brk x i Break b (in_trial st))) (lay_alike o brk k y i Break a b st h)
lay_alike o brk k (Union x y) i Flat a b st h = lay_alike o brk k x i Flat a b st h
lay_alike o brk k (PartialUnion x y) i Break a b st h =
    either-same (probe o x i Break a st) (probe o x i Break b st) (lay o brk x i Break a st) (lay o brk y i Break a st)
    (lay o brk x i Break b st) (lay o brk y i Break b st)
    (probe_alike o x i Break a b st h) (lay_alike o brk k x i Break a b st h) (lay_alike o brk k y i Break a b st h)
lay_alike o brk k (PartialUnion x y) i Flat a b st h = lay_alike o brk k x i Flat a b st h
lay_alike o brk k (Chosen test x y) i m a b st h =
    same-either (choice_holds test (prospective st.column) i) (lay o brk x i m a st) (lay o brk y i m a st) (lay o brk x i m b st)
    (lay o brk y i m b st)
    (lay_alike o brk k x i m a b st h) (lay_alike o brk k y i m a b st h)
lay_alike o brk k _ i m a b st h = refl

pub each_alike : (o : RenderOptions) (brk : Breaks) → ReadsAlike brk → (ds : List Tree) (i : ℕ) (m : Mode) (a b : List Entry) (st : State)
    → FollowAlike a b → lay_each o brk ds i m a st ≡ lay_each o brk ds i m b st
unfolding lay_each
each_alike o brk k [] i m a b st h = refl
each_alike o brk k (d ∷ ds) i m a b st h =
    then-same (lay o brk d i m (entries i ds ++ a) st) (lay o brk d i m (entries i ds ++ b) st) (λ u. lay_each o brk ds i m a u)
    (λ u. lay_each o brk ds i m b u)
    (lay_alike o brk k d i m (entries i ds ++ a) (entries i ds ++ b) st (alike_entries i ds a b h))
    (λ u. each_alike o brk k ds i m a b u h)

break_alike : (o : RenderOptions) (brk : Breaks) → ReadsAlike brk → (ps : List Tree) (d : Tree) (i : ℕ) (m : Mode) (a b : List Entry)
    (st : State) → FollowAlike a b → break_with o brk ps d i m a st ≡ break_with o brk ps d i m b st
break_alike o brk k [] d i m a b st h =
    ap (λ (n : ℕ). if is_suppressed d st.column then Done [] st else lay_ending o o.indentation_policy n st) (h.0 i)
break_alike o brk k (p ∷ ps) d i m a b st h =
    ap (after_bytes (spaces (gap st.column)))
    (then-same (lay_each o brk (p ∷ ps) i m (entry i d ∷ a) (flushed o st)) (lay_each o brk (p ∷ ps) i m (entry i d ∷ b) (flushed o st))
    (brk d i m a) (brk d i m b)
    (each_alike o brk k (p ∷ ps) i m (entry i d ∷ a) (entry i d ∷ b) (flushed o st) (alike_after i d d a b (λ w c p. refl) h))
    (λ u. k d i m a b u h))

pub breaks_alike : (o : RenderOptions) (n : ℕ) → ReadsAlike (breaks o n)
unfolding breaks
breaks_alike o zero = λ d i m a b st h. refl
breaks_alike o (suc n) = λ d i m a b st h. break_alike o (breaks o n) (breaks_alike o n) st.pending d i m a b st h
