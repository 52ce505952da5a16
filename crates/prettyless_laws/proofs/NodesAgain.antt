-- Nodes of documents that are laid again.
use Rattle.std.proofs.Common.{◌≡◌, refl, sym, ◌∙◌, ap, subst, ℕ, ℤ, zero, suc, pos, Bool, true, false, List, [], ◌∷◌, ◌++◌, append-nil}
use Rattle.std.proofs.Common.{inl, inr}
use Rattle.prettyless_model.specs.Column.{nested}
use Rattle.prettyless_model.specs.Layout.{Entry, State, entry, lay}
use Rattle.prettyless_model.specs.Levels.{settle}
use Rattle.prettyless_model.specs.Look.{look}
use Rattle.prettyless_model.specs.Tree.{Tree, Nil, Append, Group, Nest}
use Rattle.prettyless_trees.specs.Built.{is_nil}
use Rattle.prettyless_model.specs.declared.mode.Mode.{Mode}
use Rattle.prettyless_model.specs.declared.mode.Mode.TheVariants.{Break, Flat}
use Rattle.prettyless_model.specs.declared.options.RenderOptions.{RenderOptions}
use Rattle.prettyless_model.proofs.Looks.{look-same}
use Rattle.prettyless_laws.specs.Parts.{FollowAlike}
use Rattle.prettyless_laws.proofs.Following.{alike_after, lay_alike}
use Rattle.prettyless_laws.proofs.LineEnds.{breaks_read_alike}
use Rattle.prettyless_trees.specs.Built.{append, append_to, nest, nest_by}
use Rattle.prettyless_laws.specs.Bits.{Bit}
use Rattle.prettyless_laws.proofs.Again.{Again, AreNoModes, IsFailed, IsFlatAgain, IsLaidLike, LooksSame, first_mode, group_mode}
use Rattle.prettyless_laws.proofs.Again.{group_modes, later_modes, modes_after, spelled_in, AppendedDocumentsStay, DocumentsStay}
use Rattle.prettyless_laws.proofs.LaidLike.{break_is_not_flat, broken_mode, failed_first, failed_second, first_modes, like_failed}
use Rattle.prettyless_laws.proofs.LaidLike.{like_same, like_then, same_mode, second_modes}

-- ---- the same document

same_flat : (x : Tree) (m : Mode) (ms : List Mode) → IsFlatAgain x x m ms
same_flat x Flat ms = inr (λ w i c p. refl)
same_flat x Break ms = inr (inl (λ w i c p. refl))

-- a document is laid again as it is
pub again_same : DocumentsStay
again_same x m ms = record {
  nil = refl;
  broken = λ w i c p. refl;
  flat = same_flat x m ms;
  after = refl;
  spelled = refl;
  laid = λ o i a b st more f e.
      like_same (lay o (settle o) x i m a st) (lay o (settle o) x i m b st) (lay_alike o (settle o) (breaks_read_alike o).1 x i m a b st f);
}

-- ---- one after another

pub looks_both : (m : Mode) (x y u v : Tree) → LooksSame m x y → LooksSame m u v → LooksSame m (Append x u) (Append y v)
looks_both m x y u v h k = λ w i c p.
    look-same (look w x i m c p) (look w y i m c p) (λ e q. look w u i m e q) (λ e q. look w v i m e q) (h w i c p) (λ e q. k w i e q)

no_first : (x u : Tree) (ms : List Mode) → AreNoModes x Break ms → AreNoModes (Append x u) Break ms
unfolding lay
no_first x u ms h = λ o i rest st more e.
    failed_first (lay o (settle o) x i Break (entry i u ∷ rest) st) (λ s. lay o (settle o) u i Break rest s)
    (let modes = first_modes o x u i Break rest st more ms e in
    h o i (entry i u ∷ rest) st modes.0 modes.1)

no_second : (x u : Tree) (ms ns : List Mode) → modes_after x Break ms ≡ ns → AreNoModes u Break ns → AreNoModes (Append x u) Break ms
unfolding lay
no_second x u ms ns left h = λ o i rest st more e.
    failed_second (lay o (settle o) x i Break (entry i u ∷ rest) st) (λ s. lay o (settle o) u i Break rest s)
    (λ b s done. h o i rest s more (second_modes o x u i Break rest st more ms b s e done ∙ left))

flat_both : (x y u v : Tree) (m : Mode) (ms ns : List Mode) → modes_after x m ms ≡ ns → IsFlatAgain x y m ms → IsFlatAgain u v m ns
    → IsFlatAgain (Append x u) (Append y v) m ms
flat_both x y u v Flat ms ns left (inl h) k = inl (inl h)
flat_both x y u v Flat ms ns left (inr h) (inl k) = inl (inr k)
flat_both x y u v Flat ms ns left (inr h) (inr k) = inr (looks_both Flat x y u v h k)
flat_both x y u v Break ms ns left (inl h) k = inl (inl h)
flat_both x y u v Break ms ns left (inr (inr h)) k = inr (inr (no_first x u ms h))
flat_both x y u v Break ms ns left (inr (inl h)) (inl k) = inl (inr k)
flat_both x y u v Break ms ns left (inr (inl h)) (inr (inl k)) = inr (inl (looks_both Flat x y u v h k))
flat_both x y u v Break ms ns left (inr (inl h)) (inr (inr k)) = inr (inr (no_second x u ms ns left k))

node_append : (x y u v : Tree) (m : Mode) (ms ns left : List Mode) (xs us : List Bit) → Again x y m ms ns xs → Again u v m ns left us
    → Again (Append x u) (Append y v) m ms left (xs ++ us)
unfolding lay
node_append x y u v m ms ns left xs us h k = record {
  nil = refl;
  broken = looks_both Break x y u v h.broken k.broken;
  flat = flat_both x y u v m ms ns h.after h.flat k.flat;
  after = ap (modes_after u m) h.after ∙ k.after;
  spelled = (λ i. h.spelled i ++ spelled_in u m (h.after i)) ∙ ap (λ (l : List Bit). xs ++ l) k.spelled;
  laid = λ o i a b st more f e.
      like_then (lay o (settle o) x i m (entry i u ∷ a) st) (lay o (settle o) y i m (entry i v ∷ b) st)
      (λ s. lay o (settle o) u i m a s) (λ s. lay o (settle o) v i m b s)
      (let modes = first_modes o x u i m a st more ms e in
      h.laid o i (entry i u ∷ a) (entry i v ∷ b) st modes.0 (alike_after i u v a b (λ w c p. k.broken w i c p) f) modes.1)
      (λ c s done. k.laid o i a b s more f (second_modes o x u i m a st more ms c s e done ∙ h.after));
}

-- ---- what is nothing

pub nil_is : (x : Tree) → is_nil x ≡ true → x ≡ Nil
nil_is Nil e = refl
nil_is _ e = absurd (cc)

-- one of two documents that is something, or both
abbrev pub joined : Bool → Bool → Tree → Tree → Tree
joined true q x u = u
joined false true x u = x
joined false false x u = Append x u

append_to_is : (x u : Tree) → append_to x u ≡ joined false (is_nil u) x u
append_to_is x Nil = refl
append_to_is x _ = refl

pub append_is : (x u : Tree) → append x u ≡ joined (is_nil x) (is_nil u) x u
append_is Nil u = refl
append_is x u = append_to_is x u

-- nothing leaves all modes, and spells nothing
module _ (y : Tree) (m : Mode) (ms left : List Mode) (bits : List Bit) where
  pub nil_left : (x : Tree) → x ≡ Nil → Again x y m ms left bits → ms ≡ left
  nil_left x e h = ap (λ (z : Tree). modes_after z m ms) (sym e) ∙ h.after

  pub nil_spelled : (x : Tree) → x ≡ Nil → Again x y m ms left bits → [] ≡ bits
  nil_spelled x e h = ap (λ (z : Tree). spelled_in z m ms) (sym e) ∙ h.spelled

again_joined_by : (p q : Bool) (x y u v : Tree) (m : Mode) (ms ns left : List Mode) (xs us : List Bit) → is_nil x ≡ p → is_nil u ≡ q
    → Again x y m ms ns xs → Again u v m ns left us → Again (joined p q x u) (joined p q y v) m ms left (xs ++ us)
again_joined_by true q x y u v m ms ns left xs us e f h k =
    subst (λ (l : List Bit). Again u v m ms left (l ++ us)) (nil_spelled y m ms ns xs x (nil_is x e) h)
    (subst (λ (n : List Mode). Again u v m n left us) (sym (nil_left y m ms ns xs x (nil_is x e) h)) k)
again_joined_by false true x y u v m ms ns left xs us e f h k =
    subst (λ (l : List Bit). Again x y m ms left (xs ++ l)) (nil_spelled v m ns left us u (nil_is u f) k)
    (subst (λ (n : List Mode). Again x y m ms n (xs ++ [])) (nil_left v m ns left us u (nil_is u f) k)
    (subst (Again x y m ms ns) (sym (append-nil xs)) h))
again_joined_by false false x y u v m ms ns left xs us e f h k = node_append x y u v m ms ns left xs us h k

-- two documents, the second after the first
pub again_append : AppendedDocumentsStay
again_append x y u v m ms ns left xs us h k =
    let before : append x u ≡ joined (is_nil x) (is_nil u) x u = append_is x u in
    let after : append y v ≡ joined (is_nil x) (is_nil u) y v =
    append_is y v ∙ (λ i. joined (sym h.nil i) (sym k.nil i) y v) in
    subst (λ (z : Tree). Again z (append y v) m ms left (xs ++ us)) (sym before)
    (subst (λ (z : Tree). Again (joined (is_nil x) (is_nil u) x u) z m ms left (xs ++ us)) (sym after)
    (again_joined_by (is_nil x) (is_nil u) x y u v m ms ns left xs us refl refl h k))

-- ---- indented documents

flat_nested : (k : ℤ) (x y : Tree) (m : Mode) (ms : List Mode) → IsFlatAgain x y m ms → IsFlatAgain (Nest k x) (Nest k y) m ms
unfolding lay
flat_nested k x y Flat ms (inl h) = inl h
flat_nested k x y Flat ms (inr h) = inr (λ w i c p. h w (nested i k) c p)
flat_nested k x y Break ms (inl h) = inl h
flat_nested k x y Break ms (inr (inl h)) = inr (inl (λ w i c p. h w (nested i k) c p))
flat_nested k x y Break ms (inr (inr h)) = inr (inr (λ o i rest st more e. h o (nested i k) rest st more e))

node_nest : (k : ℤ) (x y : Tree) (m : Mode) (ms left : List Mode) (bits : List Bit) → Again x y m ms left bits
    → Again (Nest k x) (Nest k y) m ms left bits
unfolding lay
node_nest k x y m ms left bits h = record {
  nil = refl;
  broken = λ w i c p. h.broken w (nested i k) c p;
  flat = flat_nested k x y m ms h.flat;
  after = h.after;
  spelled = h.spelled;
  laid = λ o i a b st more f e. h.laid o (nested i k) a b st more f e;
}

abbrev nested_if : Bool → ℤ → Tree → Tree
nested_if true k x = x
nested_if false k x = Nest k x

nest_by_is : (k : ℤ) (x : Tree) → nest_by k x ≡ nested_if (is_nil x) k x
nest_by_is k Nil = refl
nest_by_is k _ = refl

again_nested_if : (p : Bool) (k : ℤ) (x y : Tree) (m : Mode) (ms left : List Mode) (bits : List Bit) → Again x y m ms left bits
    → Again (nested_if p k x) (nested_if p k y) m ms left bits
again_nested_if true k x y m ms left bits h = h
again_nested_if false k x y m ms left bits h = node_nest k x y m ms left bits h

again_nest_by : (k : ℤ) (x y : Tree) (m : Mode) (ms left : List Mode) (bits : List Bit) → Again x y m ms left bits
    → Again (nest_by k x) (nest_by k y) m ms left bits
again_nest_by k x y m ms left bits h =
    let after : nest_by k y ≡ nested_if (is_nil x) k y = nest_by_is k y ∙ ap (λ (p : Bool). nested_if p k y) (sym h.nil) in
    subst (λ (z : Tree). Again z (nest_by k y) m ms left bits) (sym (nest_by_is k x))
    (subst (λ (z : Tree). Again (nested_if (is_nil x) k x) z m ms left bits) (sym after)
    (again_nested_if (is_nil x) k x y m ms left bits h))

-- a document that is indented
pub again_nest : (n : ℕ) (x y : Tree) (m : Mode) (ms left : List Mode) (bits : List Bit) → Again x y m ms left bits
    → Again (nest (pos n) x) (nest (pos n) y) m ms left bits
again_nest zero x y m ms left bits h = h
again_nest (suc n) x y m ms left bits h = again_nest_by (pos (suc n)) x y m ms left bits h

-- ---- groups

-- a group is laid in the mode of the first, or that one fails
group_laid : (o : RenderOptions) (n : Mode) (x y : Tree) (ms left : List Mode) (bits : List Bit) (i : ℕ) (a b : List Entry) (st : State)
    (more : List Mode) → Again x y n ms left bits → FollowAlike a b → group_mode o x i a st ≡ n → group_modes o x i n a st more ≡ ms
    → IsLaidLike (lay o (settle o) x i n a st) (lay o (settle o) y i (group_mode o y i b st) b st)
group_laid o n x y ms left bits i a b st more h f g e = by n h g e
  where
    in_mode : (n : Mode) → Again x y n ms left bits → group_mode o y i b st ≡ n → group_modes o x i n a st more ≡ ms
        → IsLaidLike (lay o (settle o) x i n a st) (lay o (settle o) y i (group_mode o y i b st) b st)
    in_mode n h is e =
        subst (λ (k : Mode). IsLaidLike (lay o (settle o) x i n a st) (lay o (settle o) y i k b st)) (sym is)
        (h.laid o i a b st more f e)

    flat : IsFlatAgain x y Flat ms → Again x y Flat ms left bits → group_mode o x i a st ≡ Flat → group_modes o x i Flat a st more ≡ ms
        → IsLaidLike (lay o (settle o) x i Flat a st) (lay o (settle o) y i (group_mode o y i b st) b st)
    flat (inl never) h g e = absurd (break_is_not_flat (sym (broken_mode o x i a st never) ∙ g))
    flat (inr same) h g e = in_mode Flat h (same_mode o x y i a b st same f ∙ g) e

    broken : IsFlatAgain x y Break ms → Again x y Break ms left bits → group_mode o x i a st ≡ Break
        → group_modes o x i Break a st more ≡ ms
        → IsLaidLike (lay o (settle o) x i Break a st) (lay o (settle o) y i (group_mode o y i b st) b st)
    broken (inl never) h g e = in_mode Break h (broken_mode o y i b st never) e
    broken (inr (inl same)) h g e = in_mode Break h (same_mode o x y i a b st same f ∙ g) e
    broken (inr (inr none)) h g e = like_failed (lay o (settle o) x i Break a st) _ (none o i a st more e)

    by : (n : Mode) → Again x y n ms left bits → group_mode o x i a st ≡ n → group_modes o x i n a st more ≡ ms
        → IsLaidLike (lay o (settle o) x i n a st) (lay o (settle o) y i (group_mode o y i b st) b st)
    by Flat h g e = flat h.flat h g e
    by Break h g e = broken h.flat h g e

no_group : (x : Tree) (ms : List Mode) (n : Mode) → first_mode ms ≡ n
    → ((o : RenderOptions) (i : ℕ) (rest : List Entry) (st : State) (more : List Mode) → group_mode o x i rest st ≡ n
    → group_modes o x i n rest st more ≡ later_modes ms → IsFailed (lay o (settle o) x i n rest st))
    → AreNoModes (Group x) Break ms
unfolding lay
no_group x ms n first h = λ o i rest st more e.
    let is : group_mode o x i rest st ≡ n = ap first_mode e ∙ first in
    subst (λ (k : Mode). IsFailed (lay o (settle o) x i k rest st)) (sym is)
    (h o i rest st more is
    (subst (λ (k : Mode). group_modes o x i k rest st more ≡ later_modes ms) is (ap later_modes e)))

flat_group : (n : Mode) (x y : Tree) (ms : List Mode) → first_mode ms ≡ n → IsFlatAgain x y n (later_modes ms)
    → IsFlatAgain (Group x) (Group y) Break ms
flat_group Flat x y ms first (inl never) =
    inr (inr (no_group x ms Flat first (λ o i rest st more g e. absurd (break_is_not_flat (sym (broken_mode o x i rest st never) ∙ g)))))
flat_group Flat x y ms first (inr same) = inr (inl same)
flat_group Break x y ms first (inl never) = inl never
flat_group Break x y ms first (inr (inl same)) = inr (inl same)
flat_group Break x y ms first (inr (inr none)) = inr (inr (no_group x ms Break first (λ o i rest st more g e. none o i rest st more e)))

-- a group where lines are broken: it is laid in the first of the modes
pub again_group : (x y : Tree) (ms left : List Mode) (bits : List Bit) → Again x y (first_mode ms) (later_modes ms) left bits
    → Again (Group x) (Group y) Break ms left bits
unfolding lay
again_group x y ms left bits h = record {
  nil = refl;
  broken = h.broken;
  flat = flat_group (first_mode ms) x y ms refl h.flat;
  after = h.after;
  spelled = h.spelled;
  laid = λ o i a b st more f e.
      let is : group_mode o x i a st ≡ first_mode ms = ap first_mode e in
      subst (λ (k : Mode). IsLaidLike (lay o (settle o) x i k a st) (lay o (settle o) y i (group_mode o y i b st) b st)) (sym is)
      (group_laid o (first_mode ms) x y (later_modes ms) left bits i a b st more h f is
      (subst (λ (k : Mode). group_modes o x i k a st more ≡ later_modes ms) is (ap later_modes e)));
}

-- and where they are flat
pub again_flat_group : (x y : Tree) (ms left : List Mode) (bits : List Bit) → Again x y Flat ms left bits
    → Again (Group x) (Group y) Flat ms left bits
unfolding lay
again_flat_group x y ms left bits h = record {
  nil = refl;
  broken = h.broken;
  flat = h.flat;
  after = h.after;
  spelled = h.spelled;
  laid = h.laid;
}
