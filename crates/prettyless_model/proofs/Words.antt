-- Words: what documents spell in a row, and what one with no line suffix spells in parts.
use Rattle.std.proofs.Common.{◌≡◌, ℕ, List, [], ◌∷◌, ◌++◌, refl, ap, sym, ◌∙◌, append_assoc, append-nil, arith}
use Rattle.prettyless_model.specs.Tree.{Tree, Nil, Fail, Append, LineSuffix, Indented, Flatten, BreakOrFlat, Group, Union, PartialUnion}
use Rattle.prettyless_model.specs.Tree.{Chosen}
use Rattle.prettyless_model.specs.Spelling.{spells, spelled_parts}
use Rattle.prettyless_model.specs.Content.{suffix_depth}

-- trees as one document, in a row
abbrev pub row : List Tree → Tree
row [] = Nil
row (d ∷ ds) = Append d (row ds)

-- one more document in a row that spells a word
pub spells_one_more : (ds : List Tree) (d : Tree) (q w : List ℕ) → spells (row ds) q → spells d w → spells (row (ds ++ d ∷ [])) (q ++ w)
spells_one_more [] d q w e h = (w, [], h, refl, ap (λ (x : List ℕ). x ++ w) e ∙ sym (append-nil w))
spells_one_more (p ∷ ps) d q w s h =
    (s.0, s.1 ++ w, s.2, spells_one_more ps d s.1 w s.3 h, ap (λ (x : List ℕ). x ++ w) s.4 ∙ append_assoc s.0 s.1 w)

pub depth_one_more : (ds : List Tree) (d : Tree) → suffix_depth (row ds) ≡ 0 → suffix_depth d ≡ 0 → suffix_depth (row (ds ++ d ∷ [])) ≡ 0
depth_one_more [] d p q = omega arith
depth_one_more (t ∷ ts) d p q = omega (arith, depth_one_more ts d (omega arith) q)

-- a document with no line suffix has one part
pub parts_in_order : (d : Tree) (w : List ℕ) → spells d w → suffix_depth d ≡ 0 → spelled_parts d w []
parts_in_order Fail w h l = tt
parts_in_order (Append x y) w h l =
    (h.0, [], h.1, [], parts_in_order x h.0 h.2 (omega arith), parts_in_order y h.1 h.3 (omega arith), h.4, refl)
parts_in_order (LineSuffix d) w h l = absurd (omega arith)
parts_in_order (Indented how d) w h l = parts_in_order d w h l
parts_in_order (Flatten d) w h l = parts_in_order d w h l
parts_in_order (BreakOrFlat x y) w h l = (parts_in_order x w h.0 (omega arith), parts_in_order y w h.1 (omega arith))
parts_in_order (Group d) w h l = parts_in_order d w h l
parts_in_order (Union x y) w h l = (parts_in_order x w h.0 (omega arith), parts_in_order y w h.1 (omega arith))
parts_in_order (PartialUnion x y) w h l = (parts_in_order x w h.0 (omega arith), parts_in_order y w h.1 (omega arith))
parts_in_order (Chosen test x y) w h l = (parts_in_order x w h.0 (omega arith), parts_in_order y w h.1 (omega arith))
parts_in_order _ w h l = (h, refl)
