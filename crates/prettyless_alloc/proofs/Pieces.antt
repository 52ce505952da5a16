-- What `split` at whitespace gives, and what is interspersed of it.
use Rattle.std.proofs.Common.{◌≡◌, refl, sym, ◌∙◌, ap, subst, ℕ, ◌<◌, Bool, true, false, List, [], ◌∷◌, ◌++◌, map, take, drop}
use Rattle.std.proofs.Common.{take-append-drop, append_assoc, ◌⊎◌, inl, inr, Option, Some, None, MatchOption, arith}
use Rattle.std.specs.Char.{is_whitespace, encode_utf8}
use Rattle.std.specs.Iterator.{Yields}
use Rattle.std.specs.List.{FoldsTo, fold}
use Rattle.std.specs.Str.{encode_utf8_all, NonePass}
use Rattle.std.specs.Str.Iter.{split_steps, split_text, split_has_more, split_pattern}
use Rattle.std.specs.Str.Pattern.{FindsBy}
use Rattle.std.proofs.lemmas.Str.{encodes_same, cons_from_encodes, len_utf8_bounds}
use Rattle.prettyless_trees.specs.Counted as counted
use Rattle.prettyless_model.specs.Tree.{Tree}
use Rattle.prettyless_trees.specs.Built.{append, softline}
use Rattle.prettyless_build.specs.Iterated.{appends_after, Intersperses}
use Rattle.prettyless_trees.specs.Words.{onto_first, cut_at_whitespace, intersperse}
use denote.Ref.{Bor}
use Rattle.std.specs.declared.str.Split.{Split}

-- where no character is whitespace nothing is cut
cut_none : (cs : List ℕ) → NonePass is_whitespace cs → cut_at_whitespace cs ≡ cs ∷ []
cut_none [] h = refl
cut_none (c ∷ cs) h = rw h.0 (ap (onto_first c) (cut_none cs h.1))

-- the first whitespace ends the first piece
cut_at : (ds : List ℕ) (c : ℕ) (fs : List ℕ) → NonePass is_whitespace ds → is_whitespace c ≡ true →
    cut_at_whitespace (ds ++ c ∷ fs) ≡ ds ∷ cut_at_whitespace fs
cut_at [] c fs h w = rw w refl
cut_at (d ∷ ds) c fs h w = rw h.0 (ap (onto_first d) (cut_at ds c fs h.1 w))

-- a text that begins with these characters has others after them
front : (ds cs rest : List ℕ) → encode_utf8_all cs ≡ encode_utf8_all ds ++ rest → (es : List ℕ) × (cs ≡ ds ++ es)
    × (encode_utf8_all es ≡ rest)
front [] cs rest e = (cs, refl, e)
front (d ∷ ds) cs rest e =
    let first = cons_from_encodes cs (encode_utf8_all ds ++ rest) d (e ∙ append_assoc (encode_utf8 d) (encode_utf8_all ds) rest) in
    let others = front ds first.0 rest first.2 in
    (others.0, first.1 ∙ ap (λ (x : List ℕ). d ∷ x) others.1, others.2)

-- the characters of a text are cut where the search stops
abbrev IsCutAt : List ℕ → List ℕ → Bool → List ℕ → Type 0
IsCutAt cs x live rest =
    ((x ≡ encode_utf8_all cs) × (live ≡ false) × (cut_at_whitespace cs ≡ cs ∷ []))
    ⊎ ((ds : List ℕ) × (fs : List ℕ) × (x ≡ encode_utf8_all ds) × (live ≡ true) × (encode_utf8_all fs ≡ rest)
    × (cut_at_whitespace cs ≡ ds ∷ cut_at_whitespace fs))

cut_by : (cs w x rest : List ℕ) (live : Bool) (o : Option (ℕ × ℕ)) → encode_utf8_all cs ≡ w → FindsBy is_whitespace w o
    → MatchOption o ((x ≡ w) × (live ≡ false)) (λ q. 0 < q.1 → (x ≡ take q.0 w) × (live ≡ true) × (rest ≡ drop q.1 w))
    → IsCutAt cs x live rest
cut_by cs w x rest live None e f m =
    let same : f.0 ≡ cs = encodes_same f.0 cs (f.1 ∙ sym e) in
    inl (m.0 ∙ sym e, m.1, cut_none cs (subst (NonePass is_whitespace) same f.2))
cut_by cs w x rest live (Some q) e f m =
    let ds = f.0.0 in
    let c = f.1.0 in
    let at = f.1.2 in
    let bounds = len_utf8_bounds c in
    let on : 0 < q.1 = rw at.ends (omega arith) in
    let whole : encode_utf8_all cs ≡ encode_utf8_all ds ++ (encode_utf8 c ++ drop q.1 w) =
    e ∙ sym (take-append-drop q.0 w) ∙ ap (λ (y : List ℕ). y ++ drop q.0 w) (sym f.0.1)
    ∙ ap (λ (y : List ℕ). encode_utf8_all ds ++ y) at.split in
    let after = front ds cs (encode_utf8 c ++ drop q.1 w) whole in
    let past = cons_from_encodes after.0 (drop q.1 w) c after.2 in
    let parts = m on in
    inr (
      ds,
      past.0,
      parts.0 ∙ sym f.0.1,
      parts.1,
      past.2 ∙ sym parts.2,
      ap cut_at_whitespace (after.1 ∙ ap (λ (y : List ℕ). ds ++ y) past.1)
          ∙ cut_at ds c past.0 f.0.2 f.1.1,
    )

module _ {P : Type 0} (by : P → (ℕ → Bool) → Type 0) where
  -- what a pattern of one character that passes a test finds, and that it stays such a pattern
  abbrev finds : P → List ℕ → Option (ℕ × ℕ) → Type 0
  finds p s r = (k : ℕ → Bool) → by p k → FindsBy k s r

  abbrev keeps : P → P → Type 0
  keeps p q = (k : ℕ → Bool) → by p k → by q k

  -- where no text is left nothing comes
  nothing_comes : (xs : List (Bor (List ℕ))) (it t : Split P) → split_has_more it ≡ false → Yields (split_steps finds keeps) it xs t
      → map (λ (x : Bor (List ℕ)). x.now) xs ≡ []
  nothing_comes [] it t dead here = refl
  nothing_comes (x ∷ xs) it t dead here = let no : true ≡ false = here.1.0 ∙ dead in cc

  -- the pieces that come are those of the definition
  pub pieces_come : (xs : List (Bor (List ℕ))) (it t u : Split P) (cs : List ℕ) → encode_utf8_all cs ≡ split_text it
      → split_has_more it ≡ true
      → by (split_pattern it) is_whitespace → Yields (split_steps finds keeps) it xs t → split_steps finds keeps t None u
      → map (λ (x : Bor (List ℕ)). x.now) xs ≡ map encode_utf8_all (cut_at_whitespace cs)
  pieces_come [] it t u cs e more p here last = let no : false ≡ true = last.0 ∙ ap split_has_more (sym here) ∙ more in cc
  pieces_come (x ∷ xs) it t u cs e more p here last =
      let j = here.0 in
      let step = here.1 in
      elim (cut_by cs (split_text it) x.now (split_text j) (split_has_more j) step.1.1.1.0 e (step.1.1.1.1 is_whitespace p) step.1.1.1.2) [
        | inl h ↦ rw h.2 (ap (λ (y : List ℕ). y ∷ map (λ (z : Bor (List ℕ)). z.now) xs) h.0
            ∙ ap (λ (ys : List (List ℕ)). encode_utf8_all cs ∷ ys) (nothing_comes xs j t h.1 here.2))
        | inr h ↦ rw h.5 (ap (λ (y : List ℕ). y ∷ map (λ (z : Bor (List ℕ)). z.now) xs) h.2
            ∙ ap (λ (ys : List (List ℕ)). encode_utf8_all h.0 ∷ ys)
            (pieces_come xs j t u h.1 h.4 h.3 (step.1.0 is_whitespace p) here.2 last))
      ]

-- the tree of one piece
abbrev IsPiece : Bor (List ℕ) → Tree → Type 0
IsPiece x y = y ≡ counted.text x.now

-- pieces appended, each after s
folded : (s : Tree) (xs : List (Bor (List ℕ))) (a z : Tree) → FoldsTo (appends_after s IsPiece) a xs z
    → z ≡ fold (λ b y. append (append b s) y) a (map counted.text (map (λ (x : Bor (List ℕ)). x.now) xs))
folded s [] a z h = sym h
folded s (x ∷ xs) a z h =
    let one : h.0 ≡ append (append a s) (counted.text x.now) = h.1.2 ∙ ap (λ (w : Tree). append (append a s) w) h.1.1 in
    folded s xs h.0 z h.2 ∙ ap (λ (w : Tree). fold (λ b y. append (append b s) y) w
    (map counted.text (map (λ (x : Bor (List ℕ)). x.now) xs))) one

-- pieces with a soft line in each gap
pub pieces_interspersed : (xs : List (Bor (List ℕ))) (z : Tree) → Intersperses IsPiece (λ y. y ≡ softline) xs z
    → z ≡ intersperse softline (map counted.text (map (λ (x : Bor (List ℕ)). x.now) xs))
pieces_interspersed [] z h = h
pieces_interspersed (x ∷ []) z h = h
pieces_interspersed (x ∷ y ∷ ys) z h =
    let texts = map counted.text (map (λ (w : Bor (List ℕ)). w.now) (y ∷ ys)) in
    folded h.1 (y ∷ ys) h.0 z h.4
    ∙ ap (λ (s : Tree). fold (λ b w. append (append b s) w) h.0 texts) h.3
    ∙ ap (λ (a : Tree). fold (λ b w. append (append b softline) w) a texts) h.2
