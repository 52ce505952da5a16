-- A text cut at its whitespace, and laid out again.
use Rattle.std.specs.Prelude.{ℕ, List, [], ◌∷◌, map, if◌then◌else◌}
use Rattle.std.specs.Char.{is_whitespace}
use Rattle.std.specs.List.{fold}
use Rattle.std.specs.Str.{chars, encode_utf8_all}
use Rattle.prettyless_trees.specs.Counted as counted
use Rattle.prettyless_model.specs.Tree.{Tree, Nil}
use Rattle.prettyless_trees.specs.Built.{append, softline}

-- the pieces with one character more in front of the first
abbrev pub onto_first : ℕ → List (List ℕ) → List (List ℕ)
onto_first c [] = (c ∷ []) ∷ []
onto_first c (p ∷ ps) = (c ∷ p) ∷ ps

-- characters cut at each that is whitespace
abbrev pub cut_at_whitespace : List ℕ → List (List ℕ)
cut_at_whitespace [] = [] ∷ []
cut_at_whitespace (c ∷ cs) = if is_whitespace c then [] ∷ cut_at_whitespace cs else onto_first c (cut_at_whitespace cs)

-- the bytes between a text's whitespace
abbrev pub pieces : List ℕ → List (List ℕ)
pieces s = map encode_utf8_all (cut_at_whitespace (chars s))

-- trees in order, with s in each gap
abbrev pub intersperse : Tree → List Tree → Tree
intersperse s [] = Nil
intersperse s (x ∷ xs) = fold (λ z y. append (append z s) y) x xs

-- a text's pieces, with a break only where the line has no room, or one space, in each gap
abbrev pub reflow : List ℕ → Tree
reflow s = intersperse softline (map counted.text (pieces s))
