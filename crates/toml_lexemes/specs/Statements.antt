-- The statements of a TOML text: what it says apart from how it is laid out.
use Rattle.std.specs.Prelude.{ℕ, zero, suc, List, [], ◌∷◌, ◌++◌, Bool, true, false, cond, ◌||◌, ◌==◌}
use Rattle.toml_lexemes.specs.Bytes as byte
use Rattle.toml_lexemes.specs.Bytes.{is_blank, head}
use Rattle.text_lexemes.specs.Languages.{lengthened}
use Rattle.toml_lexemes.specs.Lexemes.{toml_lexemes_of}

-- what a lexeme is to the statement that it is in
pub data Role : Type 0 where
  a_comma : Role
  a_comment : Role
  a_line_end : Role
  an_opening : Role
  a_closing : Role
  a_word : Role
  any_other : Role

-- the role of a lexeme that begins with the byte x
abbrev pub role_of : ℕ → Role
role_of x =
    cond (x == byte.comma) a_comma
    (cond (x == byte.hash) a_comment
    (cond (x == byte.line_feed) a_line_end
    (cond ((x == byte.open_bracket) || (x == byte.open_brace)) an_opening
    (cond ((x == byte.close_bracket) || (x == byte.close_brace)) a_closing
    (cond (byte.ends_word x) any_other a_word)))))

abbrev pub role : List ℕ → Role
role s = role_of (head s)

-- ---- words

-- a dot comes first, or nothing
abbrev pub ends_part : List ℕ → Bool
ends_part [] = true
ends_part (x ∷ xs) = x == byte.dot

-- The parts of a word: each dot is one, and so are the bytes between dots. Thus a key has the same parts with blanks around its
-- dots as without them. In TOML no other words begin or end with a dot, so numbers and times stay what they are.
abbrev pub word_parts : List ℕ → List (List ℕ)
word_parts [] = []
word_parts (x ∷ xs) = cond ((x == byte.dot) || ends_part xs) ((x ∷ []) ∷ word_parts xs) (lengthened x (word_parts xs))

-- ---- comments

-- the byte x before bytes that end with no blank
abbrev pub before_trimmed : ℕ → List ℕ → List ℕ
before_trimmed x [] = cond (is_blank x) [] (x ∷ [])
before_trimmed x (y ∷ ys) = x ∷ y ∷ ys

-- without the blanks at the end
abbrev pub trimmed : List ℕ → List ℕ
trimmed [] = []
trimmed (x ∷ xs) = before_trimmed x (trimmed xs)

-- ---- statements

-- What is collected of the lexemes of a text, read from the left.
pub record Collected : Type 0 where
  -- how many brackets are open
  pub depth : ℕ
  -- a comma was read, which is a lexeme of the statement unless a closing bracket comes next
  pub comma : Bool
  -- the comments that were read after the last lexeme of the statement
  pub comments : List (List ℕ)
  -- the lexemes of the statement that has not ended
  pub line : List (List ℕ)
  -- the statements that have ended
  pub done : List (List (List ℕ))

-- before the first lexeme
abbrev pub none_collected : Collected
none_collected = record { depth = 0; comma = false; comments = []; line = []; done = [] }

-- lexemes and then a comma, where there is one
abbrev pub followed_by_comma : List (List ℕ) → Bool → List (List ℕ)
followed_by_comma line false = line
followed_by_comma line true = line ++ (byte.comma ∷ []) ∷ []

-- the statement as far as it was read
abbrev pub whole_line : Collected → List (List ℕ)
whole_line a = followed_by_comma a.line a.comma ++ a.comments

-- statements and then one more, which is none where it has no lexeme
abbrev pub with_statement : List (List (List ℕ)) → List (List ℕ) → List (List (List ℕ))
with_statement done [] = done
with_statement done (s ∷ ss) = done ++ (s ∷ ss) ∷ []

-- the statements of all that was read
abbrev pub statements_of : Collected → List (List (List ℕ))
statements_of a = with_statement a.done (whole_line a)

-- a line end ends the statement, unless a bracket is open
abbrev pub line_ended_at : ℕ → Collected → Collected
line_ended_at zero a = record { depth = 0; comma = false; comments = []; line = []; done = statements_of a }
line_ended_at (suc n) a = a

abbrev pub line_ended : Collected → Collected
line_ended a = line_ended_at a.depth a

-- a comma after another one makes that one a lexeme of the statement
abbrev pub with_held_comma : Bool → Collected → Collected
with_held_comma false a = record a { comma = true }
with_held_comma true a = record a { line = whole_line a; comments = [] }

-- the depth after a closing bracket
abbrev pub outside : ℕ → ℕ
outside zero = 0
outside (suc n) = n

-- One more lexeme of this role. A comma directly before a closing bracket is left out, and a comment before a comma is
-- read after it. A word is its parts.
abbrev pub with_role : Role → Collected → List ℕ → Collected
with_role a_comma a s = with_held_comma a.comma a
with_role a_comment a s = record a { comments = a.comments ++ trimmed s ∷ [] }
with_role a_line_end a s = line_ended a
with_role an_opening a s =
    record a { depth = suc a.depth; comma = false; comments = []; line = whole_line a ++ s ∷ [] }
with_role a_closing a s =
    record a { depth = outside a.depth; comma = false; comments = []; line = (a.line ++ a.comments) ++ s ∷ [] }
with_role a_word a s = record a { comma = false; comments = []; line = whole_line a ++ word_parts s }
with_role any_other a s = record a { comma = false; comments = []; line = whole_line a ++ s ∷ [] }

-- one more lexeme
abbrev pub with_lexeme : Collected → List ℕ → Collected
with_lexeme a s = with_role (role s) a s

-- more lexemes, in their order
abbrev pub with_lexemes : Collected → List (List ℕ) → Collected
with_lexemes a [] = a
with_lexemes a (s ∷ ss) = with_lexemes (with_lexeme a s) ss

-- The statements of a text: its lexemes between the line ends that stand outside of brackets, without the line ends and
-- the commas before closing brackets. Of words there are the parts. Comments are among the lexemes, without blanks at their end.
-- The end of the text ends the last statement, also where a bracket is open.
unfoldable pub statements : List ℕ → List (List (List ℕ))
statements text = statements_of (with_lexemes none_collected (toml_lexemes_of text))
