-- Where a document that is laid again is another: on a flat line it has no blank lines, and a broken list has its last comma.
use Rattle.std.proofs.Common.{◌≡◌, refl, sym, ◌∙◌, ap, subst, ℕ, Bool, true, false, List, [], ◌∷◌, ◌++◌, append-nil, append_assoc}
use Rattle.std.proofs.Common.{inl, inr}
use Rattle.prettyless_model.specs.Layout.{Entry, Outcome, State, and_then, entry, lay, rest_fits}
use Rattle.prettyless_model.specs.Levels.{settle}
use Rattle.prettyless_model.specs.Look.{Answers, GoesOn, Look, look, look_then}
use Rattle.prettyless_model.specs.Tree.{Tree, ExpandParent, Append, Group}
use Rattle.prettyless_trees.specs.Built.{is_nil}
use Rattle.prettyless_model.specs.declared.column.Column.{Column}
use Rattle.prettyless_model.specs.declared.mode.Mode.{Mode}
use Rattle.prettyless_model.specs.declared.mode.Mode.TheVariants.{Break, Flat}
use Rattle.prettyless_model.specs.declared.options.RenderOptions.{RenderOptions}
use Rattle.prettyless_model.proofs.Looks.{answer-each, look-same, look-then-then}
use Rattle.prettyless_model.proofs.Outcomes.{then-done}
use Rattle.prettyless_laws.specs.Parts.{FollowAlike, IsNeverFlat}
use Rattle.prettyless_trees.specs.Built.{append}
use Rattle.toml_lexemes.specs.Bytes as byte
use Rattle.toml_documents.specs.Documents.{broken_if, separated}
use Rattle.prettyless_trees.specs.Lines.{line, line_}
use Rattle.prettyless_laws.specs.Bits.{Bit, text_of}
use Rattle.prettyless_laws.proofs.Again.{Again, IsFlatAgain, IsLaidLike, LooksSame, group_modes, modes_after, spelled_in}
use Rattle.toml_documents.proofs.AgainLaws.{BrokenListsAreTrailed, FlatBlankLinesGo, FlatListsAreNot, line_bits, optional_comma}
use Rattle.toml_documents.proofs.AgainLaws.{with_optional_comma}
use Rattle.toml_documents.specs.declared.gaps.Gap.TheVariants as gap
use Rattle.prettyless_laws.proofs.LaidLike.{first_modes, like_same, like_then}
use Rattle.prettyless_laws.proofs.NodesAgain.{again_append, again_same, append_is, joined, looks_both, nil_is, nil_left, nil_spelled}
use Rattle.toml_documents.proofs.SeparatedAgain.{no_more_bits}

-- ---- blank lines

-- a line that may be flat, in a group of its own or not
abbrev line_in : Bool → Tree
line_in false = line
line_in true = Group line

line_looks : (filled : Bool) (m : Mode) → LooksSame m line (line_in filled)
line_looks true m = λ w i c p. refl
line_looks false m = λ w i c p. refl

line_laid : (filled : Bool) (o : RenderOptions) (i : ℕ) (a b : List Entry) (u : State)
    → lay o (settle o) line i Flat a u ≡ lay o (settle o) (line_in filled) i Flat b u
unfolding lay
line_laid true o i a b u = refl
line_laid false o i a b u = refl

-- a blank line is not seen where lines are broken, and is nothing on a flat line
blank_unseen : (m : Mode) (w i : ℕ) (c : Column) (p : Bool)
    → look_then (look w line_ i m c p) (λ d k. look w line i m d k) ≡ look w line i m c p
blank_unseen Break w i c p = refl
blank_unseen Flat w i c p = refl

blank_looks : (filled : Bool) (m : Mode) (x y : Tree) → LooksSame m x y
    → LooksSame m (Append (Append x line_) line) (Append y (line_in filled))
blank_looks filled m x y h = λ w i c p.
    look-then-then (look w x i m c p) (λ e q. look w line_ i m e q) (λ e q. look w line i m e q)
    ∙ look-same (look w x i m c p) (look w y i m c p)
    (λ e q. look_then (look w line_ i m e q) (λ d k. look w line i m d k)) (λ e q. look w (line_in filled) i m e q) (h w i c p)
    (λ e q. blank_unseen m w i e q ∙ line_looks filled m w i e q)

blank_flat : (filled : Bool) (x y : Tree) (ms : List Mode) → IsFlatAgain x y Flat ms
    → IsFlatAgain (Append (Append x line_) line) (Append y (line_in filled)) Flat ms
blank_flat filled x y ms (inl never) = inl (inl (inl never))
blank_flat filled x y ms (inr same) = inr (blank_looks filled Flat x y same)

blank_follows : (filled : Bool) (i : ℕ) (a b : List Entry)
    → FollowAlike (entry i line_ ∷ entry i line ∷ a) (entry i (line_in filled) ∷ b)
blank_follows true i a b = (λ k. refl, λ w c p. refl)
blank_follows false i a b = (λ k. refl, λ w c p. refl)

blank_after : (filled : Bool) (x y : Tree) (ms ns : List Mode) (xs : List Bit) → Again x y Flat ms ns xs
    → Again (Append (Append x line_) line) (Append y (line_in filled)) Flat ms ns (xs ++ line_bits Flat)
unfolding lay
blank_after filled x y ms ns xs h = record {
  nil = refl;
  broken = blank_looks filled Break x y h.broken;
  flat = blank_flat filled x y ms h.flat;
  after = h.after;
  spelled = ap (λ (l : List Bit). l ++ line_bits Flat) (append-nil (spelled_in x Flat ms) ∙ h.spelled);
  laid = λ o i a b st more f e.
      let first = lay o (settle o) x i Flat (entry i line_ ∷ entry i line ∷ a) st in
      let again = lay o (settle o) y i Flat (entry i (line_in filled) ∷ b) st in
      let modes = first_modes o (Append x line_) line i Flat a st more ms e in
      let before = first_modes o x line_ i Flat (entry i line ∷ a) st modes.0 ms modes.1 in
      let ends : State → Outcome = λ u. lay o (settle o) (line_in filled) i Flat b u in
      subst (λ (z : Outcome). IsLaidLike (and_then z (λ u. lay o (settle o) line i Flat a u)) (and_then again ends)) (sym (then-done first))
      (like_then first again (λ u. lay o (settle o) line i Flat a u) ends
      (h.laid o i (entry i line_ ∷ entry i line ∷ a) (entry i (line_in filled) ∷ b) st before.0 (blank_follows filled i a b) before.1)
      (λ c u done. like_same (lay o (settle o) line i Flat a u) (ends u) (line_laid filled o i a b u)));
}

blank_alone : (filled : Bool) (ms : List Mode) → Again (Append line_ line) (line_in filled) Flat ms ms (line_bits Flat)
unfolding lay
blank_alone true ms = record {
  nil = refl;
  broken = λ w i c p. refl;
  flat = inr (λ w i c p. refl);
  after = refl;
  spelled = refl;
  laid = λ o i a b st more f e. refl;
}
blank_alone false ms = record {
  nil = refl;
  broken = λ w i c p. refl;
  flat = inr (λ w i c p. refl);
  after = refl;
  spelled = refl;
  laid = λ o i a b st more f e. refl;
}

blank_by : (p filled : Bool) (x y : Tree) (ms ns : List Mode) (xs : List Bit) → is_nil x ≡ p → Again x y Flat ms ns xs
    → Again (append (joined p false x line_) line) (joined p false y (line_in filled)) Flat ms ns (xs ++ line_bits Flat)
blank_by true filled x y ms ns xs e h =
    subst (λ (l : List Bit). Again (Append line_ line) (line_in filled) Flat ms ns (l ++ line_bits Flat))
    (nil_spelled y Flat ms ns xs x (nil_is x e) h)
    (subst (λ (n : List Mode). Again (Append line_ line) (line_in filled) Flat ms n (line_bits Flat))
    (nil_left y Flat ms ns xs x (nil_is x e) h) (blank_alone filled ms))
blank_by false filled x y ms ns xs e h = blank_after filled x y ms ns xs h

append_line : (filled : Bool) (y : Tree) → append y (line_in filled) ≡ joined (is_nil y) false y (line_in filled)
append_line true y = append_is y (Group line)
append_line false y = append_is y line

blank_gone : (filled : Bool) (x y u v : Tree) (ms ns left : List Mode) (xs us : List Bit) → Again x y Flat ms ns xs
    → Again u v Flat ns left us
    → Again (separated gap.BlankLine x u) (append (append y (line_in filled)) v) Flat ms left (xs ++ (line_bits Flat ++ us))
blank_gone filled x y u v ms ns left xs us h k =
    let before : append x line_ ≡ joined (is_nil x) false x line_ = append_is x line_ in
    let after : append y (line_in filled) ≡ joined (is_nil x) false y (line_in filled) =
    append_line filled y ∙ ap (λ (p : Bool). joined p false y (line_in filled)) (sym h.nil) in
    let parts : Again (append (append x line_) line) (append y (line_in filled)) Flat ms ns (xs ++ line_bits Flat) =
    subst (λ (z : Tree). Again (append z line) (append y (line_in filled)) Flat ms ns (xs ++ line_bits Flat)) (sym before)
    (subst (λ (z : Tree). Again (append (joined (is_nil x) false x line_) line) z Flat ms ns (xs ++ line_bits Flat)) (sym after)
    (blank_by (is_nil x) filled x y ms ns xs refl h)) in
    subst (Again (separated gap.BlankLine x u) (append (append y (line_in filled)) v) Flat ms left) (append_assoc xs (line_bits Flat) us)
    (again_append (append (append x line_) line) (append y (line_in filled)) u v Flat ms ns left (xs ++ line_bits Flat) us parts k)

-- on a flat line a blank line goes
pub again_flat_blank : FlatBlankLinesGo gap.Line
again_flat_blank x y u v ms ns left xs us h k = blank_gone false x y u v ms ns left xs us h k

-- also where a line without one is filled
pub again_flat_blank_fill : FlatBlankLinesGo gap.Fill
again_flat_blank_fill x y u v ms ns left xs us h k = blank_gone true x y u v ms ns left xs us h k

-- ---- the comma after the last item

abbrev comma_bits : Mode → List Bit
comma_bits Break = text_of (byte.comma ∷ []) ∷ []
comma_bits Flat = []

-- with it, and kept from being flat or not: the first is nothing or not
abbrev trailed : Bool → Bool → Tree → Tree
trailed p had x = broken_if had (joined p false x optional_comma)

-- what follows the comma then
abbrev forced : Bool → ℕ → List Entry → List Entry
forced true i rest = entry i ExpandParent ∷ rest
forced false i rest = rest

forced_fits : (had : Bool) (w i : ℕ) (rest : List Entry) (c : Column) (p : Bool)
    → rest_fits w (forced had i rest) c p ≡ rest_fits w rest c p
forced_fits true w i rest c p = refl
forced_fits false w i rest c p = refl

goes_on : (l : Look) → look_then l (λ c p. GoesOn c p) ≡ l
goes_on (Answers b) = refl
goes_on (GoesOn c p) = refl

trailed_looks : (p had : Bool) (x : Tree) → LooksSame Break (trailed p had x) (trailed p false x)
trailed_looks true true x = λ w i c p. goes_on (look w optional_comma i Break c p)
trailed_looks false true x = λ w i c p. goes_on (look w (Append x optional_comma) i Break c p)
trailed_looks p false x = λ w i c q. refl

comma_after : (m : Mode) (ms : List Mode) → modes_after optional_comma m ms ≡ ms
comma_after Break ms = refl
comma_after Flat ms = refl

comma_spelled : (m : Mode) (ms : List Mode) → spelled_in optional_comma m ms ≡ comma_bits m
comma_spelled Break ms = refl
comma_spelled Flat ms = refl

trailed_after : (p had : Bool) (x : Tree) (m : Mode) (ms : List Mode)
    → modes_after (trailed p had x) m ms ≡ modes_after (trailed p false x) m ms
trailed_after true true x m ms = refl
trailed_after false true x m ms = refl
trailed_after p false x m ms = refl

trailed_spelled : (p had : Bool) (x : Tree) (m : Mode) (ms : List Mode)
    → spelled_in (trailed p had x) m ms ≡ spelled_in (trailed p false x) m ms
trailed_spelled true true x m ms = append-nil (spelled_in optional_comma m ms)
trailed_spelled false true x m ms = append-nil (spelled_in (Append x optional_comma) m ms)
trailed_spelled p false x m ms = refl

never_trailed : (p : Bool) (x : Tree) → IsNeverFlat (trailed p true x)
never_trailed true x = inr tt
never_trailed false x = inr tt

module _ (o : RenderOptions) (i : ℕ) (m : Mode) where
  -- the comma is laid alike before anything
  alone_laid : (had : Bool) (x : Tree) (rest : List Entry) (st : State)
      → lay o (settle o) (trailed true had x) i m rest st ≡ lay o (settle o) optional_comma i m [] st
  unfolding lay
  alone_laid true x rest st = then-done (lay o (settle o) optional_comma i m [] st)
  alone_laid false x rest st = refl

  after_laid : (had : Bool) (x : Tree) (rest : List Entry) (st : State)
      → lay o (settle o) (trailed false had x) i m rest st
      ≡ and_then (lay o (settle o) x i m (entry i optional_comma ∷ forced had i rest) st) (λ u. lay o (settle o) optional_comma i m [] u)
  unfolding lay
  after_laid true x rest st =
      then-done (and_then (lay o (settle o) x i m (entry i optional_comma ∷ entry i ExpandParent ∷ rest) st)
      (λ u. lay o (settle o) optional_comma i m [] u))
  after_laid false x rest st = refl

  -- the modes of the list are those of what is before its comma
  before_modes : (had : Bool) (x : Tree) (rest : List Entry) (st : State) (more ms : List Mode)
      → group_modes o (trailed false had x) i m rest st more ≡ ms
      → (left : List Mode) × (group_modes o x i m (entry i optional_comma ∷ forced had i rest) st left ≡ ms)
  unfolding lay
  before_modes true x rest st more ms e =
      let modes = first_modes o (Append x optional_comma) ExpandParent i m rest st more ms e in
      first_modes o x optional_comma i m (entry i ExpandParent ∷ rest) st modes.0 ms modes.1
  before_modes false x rest st more ms e = first_modes o x optional_comma i m rest st more ms e

  comma_follows : (had has : Bool) (a b : List Entry) → FollowAlike a b
      → FollowAlike (entry i optional_comma ∷ forced had i a) (entry i optional_comma ∷ forced has i b)
  comma_follows had has a b f = (
    λ k. refl,
    λ w c p.
        answer-each (look w optional_comma i Break c p) (λ e q. rest_fits w (forced had i a) e q)
        (λ e q. rest_fits w (forced has i b) e q) (λ e q. forced_fits had w i a e q ∙ f.1 w e q ∙ sym (forced_fits has w i b e q)),
  )

trailed_alone : (had has : Bool) (x y : Tree) (m : Mode) (ms : List Mode) → IsFlatAgain (trailed true had x) (trailed true has y) m ms
    → Again (trailed true had x) (trailed true has y) m ms ms (comma_bits m)
trailed_alone had has x y m ms flat = record {
  nil = alone_nil had ∙ sym (alone_nil has);
  broken = λ w i c p. trailed_looks true had x w i c p ∙ sym (trailed_looks true has y w i c p);
  flat = flat;
  after = trailed_after true had x m ms ∙ comma_after m ms;
  spelled = trailed_spelled true had x m ms ∙ comma_spelled m ms;
  laid = λ o i a b st more f e.
      like_same (lay o (settle o) (trailed true had x) i m a st) (lay o (settle o) (trailed true has y) i m b st)
      (alone_laid o i m had x a st ∙ sym (alone_laid o i m has y b st));
}
  where
    alone_nil : (had : Bool) → is_nil (broken_if had optional_comma) ≡ false
    alone_nil true = refl
    alone_nil false = refl

trailed_after_some : (had has : Bool) (x y : Tree) (m : Mode) (ms left : List Mode) (bits : List Bit)
    → IsFlatAgain (trailed false had x) (trailed false has y) m ms → Again x y m ms left bits
    → Again (trailed false had x) (trailed false has y) m ms left (bits ++ comma_bits m)
trailed_after_some had has x y m ms left bits flat h = record {
  nil = some had x ∙ sym (some has y);
  broken = λ w i c p.
      trailed_looks false had x w i c p ∙ looks_both Break x y optional_comma optional_comma h.broken (λ v j d q. refl) w i c p
      ∙ sym (trailed_looks false has y w i c p);
  flat = flat;
  after = trailed_after false had x m ms ∙ comma_after m (modes_after x m ms) ∙ h.after;
  spelled =
      trailed_spelled false had x m ms ∙ (λ i. h.spelled i ++ comma_spelled m (modes_after x m ms) i);
  laid = λ o i a b st more f e.
      let before = before_modes o i m had x a st more ms e in
      let first = lay o (settle o) x i m (entry i optional_comma ∷ forced had i a) st in
      let again = lay o (settle o) y i m (entry i optional_comma ∷ forced has i b) st in
      let comma : State → Outcome = λ u. lay o (settle o) optional_comma i m [] u in
      subst (λ (z : Outcome). IsLaidLike z (lay o (settle o) (trailed false has y) i m b st)) (sym (after_laid o i m had x a st))
      (subst (λ (z : Outcome). IsLaidLike (and_then first comma) z) (sym (after_laid o i m has y b st))
      (like_then first again comma comma
      (h.laid o i (entry i optional_comma ∷ forced had i a) (entry i optional_comma ∷ forced has i b) st before.0
      (comma_follows o i m had has a b f) before.1)
      (λ c u done. like_same (comma u) (comma u) refl)));
}
  where
    some : (had : Bool) (x : Tree) → is_nil (trailed false had x) ≡ false
    some true x = refl
    some false x = refl

trailed_by : (p had has : Bool) (x y : Tree) (m : Mode) (ms left : List Mode) (bits : List Bit) → is_nil x ≡ p
    → IsFlatAgain (trailed p had x) (trailed p has y) m ms → Again x y m ms left bits
    → Again (trailed p had x) (trailed p has y) m ms left (bits ++ comma_bits m)
trailed_by true had has x y m ms left bits e flat h =
    subst (λ (l : List Bit). Again (trailed true had x) (trailed true has y) m ms left (l ++ comma_bits m))
    (nil_spelled y m ms left bits x (nil_is x e) h)
    (subst (λ (n : List Mode). Again (trailed true had x) (trailed true has y) m ms n (comma_bits m))
    (nil_left y m ms left bits x (nil_is x e) h) (trailed_alone had has x y m ms flat))
trailed_by false had has x y m ms left bits e flat h = trailed_after_some had has x y m ms left bits flat h

again_commas : (had has : Bool) (x y : Tree) (m : Mode) (ms left : List Mode) (bits : List Bit)
    → ((p : Bool) → IsFlatAgain (trailed p had x) (trailed p has y) m ms) → Again x y m ms left bits
    → Again (broken_if had (with_optional_comma x)) (broken_if has (with_optional_comma y)) m ms left (bits ++ comma_bits m)
again_commas had has x y m ms left bits flat h =
    let after : with_optional_comma y ≡ joined (is_nil x) false y optional_comma =
    append_is y optional_comma ∙ ap (λ (p : Bool). joined p false y optional_comma) (sym h.nil) in
    subst (λ (z : Tree). Again (broken_if had z) (broken_if has (with_optional_comma y)) m ms left (bits ++ comma_bits m))
    (sym (append_is x optional_comma))
    (subst (λ (z : Tree). Again (trailed (is_nil x) had x) (broken_if has z) m ms left (bits ++ comma_bits m)) (sym after)
    (trailed_by (is_nil x) had has x y m ms left bits refl (flat (is_nil x)) h))

-- a list that was broken has a comma after its last item when it is laid again, whether it had one or not
pub again_trailed : BrokenListsAreTrailed
again_trailed had x y ms left bits h = again_commas had true x y Break ms left bits (λ p. inl (never_trailed p y)) h

-- one that was flat has none, and had none
pub again_flat_trailed : FlatListsAreNot
again_flat_trailed true x y ms left bits h =
    no_more_bits (broken_if true (with_optional_comma x)) (with_optional_comma y) Flat ms left bits
    (again_commas true false x y Flat ms left bits (λ p. inl (never_trailed p x)) h)
again_flat_trailed false x y ms left bits h =
    no_more_bits (with_optional_comma x) (with_optional_comma y) Flat ms left bits
    (again_append x y optional_comma optional_comma Flat ms left left bits [] h (again_same optional_comma Flat left))
