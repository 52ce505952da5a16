-- What lines of a layout are to those after them: whether comments of later ones may be aligned with theirs.
use Rattle.std.specs.Prelude.{ℕ, Bool, true, false, not, cond, ◌&&◌, ◌==◌, List, [], ◌∷◌, length}
use Rattle.std.specs.List.{list_any}
use Rattle.toml_lexemes.specs.SpacedLexemes.{SpacedToml}
use Rattle.toml_documents.specs.Alignment.{ends_the_line, is_comment_lexeme}
use Rattle.toml_documents.specs.Documents.{is_line_feed_byte}
use Rattle.toml_documents.specs.declared.walk.LinesRead.{LinesRead}

-- no lexeme: the text ends there
abbrev pub is_text_end : List ℕ → Bool
is_text_end [] = true
is_text_end (x ∷ xs) = false

-- before the first line
abbrev pub first_walk : LinesRead
first_walk = record { holds = false; ended = false; fresh = true; free = false; plain = true; whole = true }

-- after the end of a text, with this gap before it
abbrev pub past_end : LinesRead → List ℕ → LinesRead
past_end w g = record w { whole = w.whole && w.fresh && (length g == 0) }

-- after a comment at the end of a line
abbrev pub past_comment : LinesRead → LinesRead
past_comment w = record w { ended = true; fresh = false; free = false; plain = false }

-- after the end of a line
abbrev pub past_line : LinesRead → LinesRead
past_line w = record w { holds = false; ended = false; fresh = true; free = not w.ended }

-- after any other lexeme
abbrev pub past_text : LinesRead → List ℕ → LinesRead
past_text w s = record w { holds = not (list_any is_line_feed_byte s); fresh = false; free = false }

-- after a comment, which is one at the end of a line or not
abbrev pub past_any_comment : Bool → LinesRead → List ℕ → LinesRead
past_any_comment at_end w s = cond at_end (past_comment w) (past_text w s)

-- after a lexeme, which is a comment, or ends the line; a comment that comes now is one at the end of a line, or not
abbrev pub past_lexeme : Bool → Bool → Bool → LinesRead → List ℕ → LinesRead
past_lexeme comment ends holds w s = cond comment (past_any_comment holds w s) (cond ends (past_line w) (past_text w s))

-- after a lexeme, or the end of a text
abbrev pub walk_past : LinesRead → SpacedToml → LinesRead
walk_past w p =
    cond (is_text_end p.lexeme) (past_end w p.gap) (past_lexeme (is_comment_lexeme p) (ends_the_line p) w.holds w p.lexeme)

-- after all of these
abbrev pub walked : LinesRead → List SpacedToml → LinesRead
walked w [] = w
walked w (p ∷ ps) = walked (walk_past w p) ps

-- no comment that comes is aligned with one of the lines
abbrev pub is_settled : LinesRead → Bool
is_settled w = w.whole && w.free
