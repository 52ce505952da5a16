-- Outcomes that are like others, and the modes that a layout leaves.
use Rattle.std.proofs.Common.{◌≡◌, refl, sym, ◌∙◌, ap, subst, ℕ, Bool, true, false, List, [], ◌∷◌, ◌++◌, inr, if◌then◌else◌, nat_le, ◌&&◌}
use Rattle.prettyless_model.specs.Column.{commit, gap}
use Rattle.prettyless_model.specs.Indent.{indent_by}
use Rattle.prettyless_model.specs.Layout.{Done, Entry, Failed, Outcome, State, after_bytes, and_then, entry, lay, probe}
use Rattle.prettyless_model.specs.Layout.{rest_fits, some_pending}
use Rattle.prettyless_model.specs.Levels.{settle}
use Rattle.prettyless_model.specs.Look.{look}
use Rattle.prettyless_model.specs.Spaces.{spaces}
use Rattle.prettyless_model.specs.Tree.{Tree, Nil, Text, Append, Indented, BreakOrFlat, Group}
use Rattle.prettyless_model.specs.declared.mode.Mode.{Mode}
use Rattle.prettyless_model.specs.declared.mode.Mode.TheVariants.{Break, Flat}
use Rattle.prettyless_model.specs.declared.options.RenderOptions.{RenderOptions}
use Rattle.prettyless_model.proofs.Looks.{answer-same}
use Rattle.prettyless_laws.specs.Parts.{FollowAlike, IsNeverFlat}
use Rattle.prettyless_laws.proofs.NeverFlat.{never_flat_is_broken}
use Rattle.prettyless_laws.proofs.Again.{IsFailed, IsLaidLike, LooksSame, group_mode, group_modes, modes_after, modes_then}

-- ---- outcomes

pub like_same : (x y : Outcome) → x ≡ y → IsLaidLike x y
like_same (Done b st) y h = sym h
like_same (Failed b) y h = tt

pub like_failed : (x y : Outcome) → IsFailed x → IsLaidLike x y
like_failed (Done b st) y h = absurd h
like_failed (Failed b) y h = tt

like_after : (b : List ℕ) (x y : Outcome) → IsLaidLike x y → IsLaidLike (after_bytes b x) (after_bytes b y)
like_after b (Done c st) y h = ap (after_bytes b) h
like_after b (Failed c) y h = tt

-- one after another
pub like_then : (x y : Outcome) (f g : State → Outcome) → IsLaidLike x y
    → ((b : List ℕ) (u : State) → x ≡ Done b u → IsLaidLike (f u) (g u)) → IsLaidLike (and_then x f) (and_then y g)
like_then (Done b u) y f g h k =
    subst (λ (z : Outcome). IsLaidLike (after_bytes b (f u)) (and_then z g)) (sym h) (like_after b (f u) (g u) (k b u refl))
like_then (Failed b) y f g h k = tt

failed_after : (b : List ℕ) (x : Outcome) → IsFailed x → IsFailed (after_bytes b x)
failed_after b (Done c st) h = h
failed_after b (Failed c) h = tt

pub failed_first : (x : Outcome) (f : State → Outcome) → IsFailed x → IsFailed (and_then x f)
failed_first (Done b u) f h = absurd h
failed_first (Failed b) f h = tt

pub failed_second : (x : Outcome) (f : State → Outcome) → ((b : List ℕ) (u : State) → x ≡ Done b u → IsFailed (f u))
    → IsFailed (and_then x f)
failed_second (Done b u) f h = failed_after b (f u) (h b u refl)
failed_second (Failed b) f h = tt

-- ---- modes

-- an outcome that is whole leaves these modes of some
abbrev LeavesModes : Outcome → List Mode → List Mode → Type 0
LeavesModes (Done b u) ms left = ms ≡ left
LeavesModes (Failed b) ms left = Unit {0}

leaves_same : (x : Outcome) (ms : List Mode) → LeavesModes x ms ms
leaves_same (Done b u) ms = refl
leaves_same (Failed b) ms = tt

leaves_after : (b : List ℕ) (x : Outcome) (ms left : List Mode) → LeavesModes x ms left → LeavesModes (after_bytes b x) ms left
leaves_after b (Done c u) ms left h = h
leaves_after b (Failed c) ms left h = tt

leaves_then : (x : Outcome) (f : State → Outcome) (g : State → List Mode) (after : List Mode → List Mode) (ms left : List Mode)
    → LeavesModes x (modes_then x g) left → ((u : State) → LeavesModes (f u) ms (after (g u))) → LeavesModes (and_then x f) ms (after left)
leaves_then (Done b u) f g after ms left h k =
    leaves_after b (f u) ms (after left) (subst (λ (n : List Mode). LeavesModes (f u) ms (after n)) h (k u))
leaves_then (Failed b) f g after ms left h k = tt

modes_left : (o : RenderOptions) (x : Tree) (i : ℕ) (m : Mode) (rest : List Entry) (st : State) (more : List Mode)
    → LeavesModes (lay o (settle o) x i m rest st) more (modes_after x m (group_modes o x i m rest st more))
unfolding lay
modes_left o (Append l r) i m rest st more =
    let next : State → List Mode = λ u. group_modes o r i m rest u more in
    let first = lay o (settle o) l i m (entry i r ∷ rest) st in
    leaves_then first (λ u. lay o (settle o) r i m rest u) next (modes_after r m) more
    (modes_after l m (group_modes o l i m (entry i r ∷ rest) st (modes_then first next)))
    (modes_left o l i m (entry i r ∷ rest) st (modes_then first next))
    (λ u. modes_left o r i m rest u more)
modes_left o (Indented how d) i m rest st more = modes_left o d (indent_by how i st.column) m rest st more
modes_left o (BreakOrFlat b f) i Break rest st more = modes_left o b i Break rest st more
modes_left o (BreakOrFlat b f) i Flat rest st more = modes_left o f i Flat rest st more
modes_left o (Group d) i Break rest st more = modes_left o d i (group_mode o d i rest st) rest st more
modes_left o (Group d) i Flat rest st more = modes_left o d i Flat rest st more
modes_left o d i m rest st more = leaves_same (lay o (settle o) d i m rest st) more

left_at : (x : Outcome) (b : List ℕ) (u : State) (next : State → List Mode) (left : List Mode) → x ≡ Done b u
    → LeavesModes x (modes_then x next) left → next u ≡ left
left_at x b u next left e h = subst (λ (z : Outcome). LeavesModes z (modes_then z next) left) e h

-- the first of two documents was laid in the first modes of both
pub first_modes : (o : RenderOptions) (l r : Tree) (i : ℕ) (m : Mode) (rest : List Entry) (st : State) (more ms : List Mode)
    → group_modes o (Append l r) i m rest st more ≡ ms
    → (left : List Mode) × (group_modes o l i m (entry i r ∷ rest) st left ≡ ms)
first_modes o l r i m rest st more ms e =
    (modes_then (lay o (settle o) l i m (entry i r ∷ rest) st) (λ u. group_modes o r i m rest u more), e)

-- where the first of two documents was laid in these modes, the second was in those that it leaves
pub second_modes : (o : RenderOptions) (l r : Tree) (i : ℕ) (m : Mode) (rest : List Entry) (st : State) (more ms : List Mode)
    (b : List ℕ) (u : State) → group_modes o (Append l r) i m rest st more ≡ ms
    → lay o (settle o) l i m (entry i r ∷ rest) st ≡ Done b u → group_modes o r i m rest u more ≡ modes_after l m ms
second_modes o l r i m rest st more ms b u e done =
    let next : State → List Mode = λ v. group_modes o r i m rest v more in
    let first = lay o (settle o) l i m (entry i r ∷ rest) st in
    left_at first b u next (modes_after l m (group_modes o (Append l r) i m rest st more)) done
    (modes_left o l i m (entry i r ∷ rest) st (modes_then first next))
    ∙ ap (modes_after l m) e

-- ---- groups

-- before what is seen alike a document that looks the same is laid in the same mode
pub same_mode : (o : RenderOptions) (x y : Tree) (i : ℕ) (a b : List Entry) (st : State) → LooksSame Flat x y → FollowAlike a b
    → group_mode o y i b st ≡ group_mode o x i a st
same_mode o x y i a b st h f =
    let some = some_pending st.pending in
    ap (λ (t : Bool). if t then Flat else Break)
    (sym (answer-same (look o.width x i Flat st.column some) (look o.width y i Flat st.column some) (λ c p. rest_fits o.width a c p)
    (λ c p. rest_fits o.width b c p) (h o.width i st.column some) (λ c p. f.1 o.width c p)))

differs : (s b c : List ℕ) → (s ++ 0 ∷ []) ++ b ≡ (s ++ 1 ∷ []) ++ c → ⊥
differs [] b c e = absurd (cc)
differs (x ∷ s) b c e = differs s b c (cc)

outcomes_differ : (s : List ℕ) (x : Outcome) → after_bytes (s ++ 0 ∷ []) x ≡ after_bytes (s ++ 1 ∷ []) x → ⊥
outcomes_differ s (Done b u) e = differs s b b (cc)
outcomes_differ s (Failed b) e = differs s b b (cc)

-- after a text of one column
abbrev marked : RenderOptions → State → State
marked o st = record st { column = commit 1 st.column; within = st.within && nat_le (commit 1 st.column).position o.width }

-- after a text that is nothing where it is flat, a document that is never flat would be laid in Flat as in Break
laid_twice : (o : RenderOptions) (n : ℕ) (d : Tree) (i : ℕ) (rest : List Entry) (st : State) → IsNeverFlat d
    → probe o d i Flat rest st ≡ true
    → after_bytes [] (lay o (settle o) d i Flat rest st)
    ≡ after_bytes (spaces (gap st.column) ++ n ∷ []) (lay o (settle o) d i Break rest (marked o st))
unfolding lay
laid_twice o n d i rest st h e =
    let after = Append (BreakOrFlat (Text (n ∷ [])) Nil) d in
    ap (λ (t : Bool). lay o (settle o) after i (if t then Flat else Break) rest st) (sym e)
    ∙ never_flat_is_broken o (settle o) after i rest st (inr h)

-- a document that is never flat is in no mode but Break
pub broken_mode : (o : RenderOptions) (d : Tree) (i : ℕ) (rest : List Entry) (st : State) → IsNeverFlat d
    → group_mode o d i rest st ≡ Break
broken_mode o d i rest st h = by (probe o d i Flat rest st) refl
  where
    by : (t : Bool) → probe o d i Flat rest st ≡ t → (if probe o d i Flat rest st then Flat else Break) ≡ Break
    by true e =
        absurd (outcomes_differ (spaces (gap st.column)) _ (sym (laid_twice o 0 d i rest st h e) ∙ laid_twice o 1 d i rest st h e))
    by false e = ap (λ (t : Bool). if t then Flat else Break) e

pub break_is_not_flat : Break ≡ Flat → ⊥
break_is_not_flat e = absurd (cc)
