-- Which texts a pattern fits. Texts are lists of characters.
use Rattle.std.specs.Prelude.{◌≡◌, ◌&&◌, ◌||◌, ◌+◌, ◌≤◌, ℕ, Bool, true, false, not, nat_le, List, [], ◌∷◌, drop, length}
use Rattle.std.specs.Prelude.{if◌then◌else◌, slice_index_or}
use Rattle.std.specs.Global.{Vec}
use Rattle.std.specs.List.{list_any}
use Rattle.editor_config.specs.declared.part.PatternPart.{PatternPart}
use Rattle.editor_config.specs.declared.part.Range.{Range}
use Rattle.editor_config.specs.declared.pattern.PatternPiece.{PatternPiece}
use Rattle.editor_config.specs.declared.pattern.PatternPiece.TheVariants.{Part as Single, Choice}

-- a test of what is left of a text
abbrev pub Test : Type 0
Test = List ℕ → Bool

-- the character is in the range
abbrev pub is_in : ℕ → Range → Bool
is_in c range = nat_le range.first c && nat_le c range.last

-- the part takes the character
abbrev pub takes_character : PatternPart → ℕ → Bool
takes_character part c = if part.others then not (list_any (is_in c) part.ranges.items) else list_any (is_in c) part.ranges.items

-- a character that passes, and then the rest
abbrev pub one_then : (ℕ → Bool) → Test → Test
one_then passes rest [] = false
one_then passes rest (c ∷ text) = passes c && rest text

-- any number of characters that pass, and then the rest
abbrev pub many_then : (ℕ → Bool) → Test → Test
many_then passes rest [] = rest []
many_then passes rest (c ∷ text) = rest (c ∷ text) || (passes c && many_then passes rest text)

-- a text that the part fits, and then the rest
abbrev pub part_then : PatternPart → Test → Test
part_then part rest text = if part.repeats then many_then (takes_character part) rest text else one_then (takes_character part) rest text

-- texts that the parts fit, one after the other, and then the rest
abbrev pub parts_then : List PatternPart → Test → Test
parts_then [] rest = rest
parts_then (part ∷ parts) rest = part_then part (parts_then parts rest)

-- a text that one of the alternatives fits, and then the rest
abbrev pub choice_then : List (Vec PatternPart) → Test → Test
choice_then alternatives rest text = list_any (λ (parts : Vec PatternPart). parts_then parts.items rest text) alternatives

-- a text that the piece fits, and then the rest
abbrev pub piece_then : PatternPiece → Test → Test
piece_then (Single part) rest = part_then part rest
piece_then (Choice alternatives) rest = choice_then alternatives.items rest

-- nothing is left
abbrev pub is_end : Test
is_end [] = true
is_end (c ∷ text) = false

-- a whole text that the pieces fit, one after the other
abbrev pub fits_pieces : List PatternPiece → Test
fits_pieces [] = is_end
fits_pieces (piece ∷ pieces) = piece_then piece (fits_pieces pieces)

-- What the test says of what is left of a text from each place on, its end too.
pub record IsAtEach (rest : Test) (text : List ℕ) (passes : List Bool) : Type 0 where
  pub long : length passes ≡ length text + 1
  pub at : (k : ℕ) → k ≤ length text → slice_index_or passes k false ≡ rest (drop k text)

-- A place passes where it does in one of two lists.
pub record IsUnion (passes others joined : List Bool) : Type 0 where
  pub long : length joined ≡ length passes
  pub at : (k : ℕ) → slice_index_or joined k false ≡ (slice_index_or passes k false || slice_index_or others k false)
