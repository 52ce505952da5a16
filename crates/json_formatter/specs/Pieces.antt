-- The pieces of a text: its lexemes, of which a bracket has a line end with it where its list is kept broken.
use Rattle.std.specs.Prelude.{ℕ, Bool, false, not, ◌&&◌, nat_le, List, [], ◌∷◌, ◌++◌, map, if◌then◌else◌}
use Rattle.json_lexemes.specs.SpacedLexemes.{Spaced, line_feeds, spaced_lexemes}
use Rattle.json_formatter.specs.Documents.{closes, lexeme_of, opens}
use Rattle.json_formatter.specs.Values.{line_end_if}
use Rattle.json_formatter.specs.declared.style.Style.{Style}

-- the lexeme that comes next begins a line, and closes no list
abbrev pub begins_line : List Spaced → Bool
begins_line [] = false
begins_line (p ∷ ps) = nat_le 1 (line_feeds p.gap) && not (closes p.lexeme)

-- a lexeme before others: what opens a list has the line end with it, unless lines are compact
abbrev pub piece : Bool → List ℕ → List Spaced → List ℕ
piece compact s ps = if opens s then s ++ line_end_if (not compact && begins_line ps) else s

-- each of these lexemes
abbrev pub pieces_of : Bool → List Spaced → List (List ℕ)
pieces_of compact [] = []
pieces_of compact (p ∷ ps) = piece compact p.lexeme ps ∷ pieces_of compact ps

-- the pieces of a text in a style
abbrev pub text_pieces : Style → List ℕ → List (List ℕ)
text_pieces style text = pieces_of style.compact (spaced_lexemes text)

-- the lexemes of pieces
abbrev pub lexemes_of_pieces : List (List ℕ) → List (List ℕ)
lexemes_of_pieces ss = map lexeme_of ss
