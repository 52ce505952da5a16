-- How items that a document shows are read as statements.
use Rattle.std.specs.Prelude.{◌≡◌, ℕ, zero, suc, List, [], ◌∷◌, Bool, true, false, cond, ◌==◌, ◌||◌, ⊤}
use Rattle.prettyless_model.specs.Shows.{AnyLine, Least, Nothing, Spacing, LineEnd, more, Item, Shown, Gap, Mark, Late, Place, Before}
use Rattle.prettyless_model.specs.Shows.{After, with_gap, at_start, after_text}
use Rattle.toml_lexemes.specs.Bytes as byte
use Rattle.toml_lexemes.specs.Bytes.{is_sign, is_quote, ends_word, head, ends_with_dot}
use Rattle.toml_lexemes.specs.Lexemes.{toml_lexemes_of}
use Rattle.toml_lexemes.specs.Spaced.{MayFollow}
use Rattle.toml_lexemes.specs.Statements.{Role, a_comment, a_line_end, a_closing, role, trimmed, Collected, none_collected, line_ended}
use Rattle.toml_lexemes.specs.Statements.{with_lexeme}

-- ---- texts that are lexemes

-- A comment ends with no blank. After any other text a space may stand, so a string is closed. A line end is a gap and no
-- text.
abbrev pub EndsWell : Role → List ℕ → Type 0
EndsWell a_comment s = trimmed s ≡ s
EndsWell a_line_end s = ⊥
EndsWell r s = MayFollow s (byte.blank_space ∷ [])

-- the text is one lexeme, and where blanks follow it, it is the same lexeme
pub record IsWholeLexeme (s : List ℕ) : Type 0 where
  pub alone : toml_lexemes_of s ≡ s ∷ []
  pub ends : EndsWell (role s) s

-- what a gap has at least after a word, which ends with a dot or not, before a text that begins with the byte y
abbrev pub least_after_word : Bool → ℕ → Least
least_after_word dotted y = cond (dotted || ((y == byte.dot) || ends_word y)) Nothing Spacing

-- the same after a text that begins with the byte x
abbrev pub least_after : Bool → ℕ → ℕ → Least
least_after dotted x y =
    cond (is_sign x) Nothing
    (cond (x == byte.hash) LineEnd
    (cond (is_quote x) (cond (is_quote y) Spacing Nothing) (least_after_word dotted y)))

-- What a gap has at least between the two texts, so that they are two lexemes or, beside a dot, the parts of one: a line end after
-- a comment, and some byte between two words and between two strings. The first text may be none.
abbrev pub least_between : List ℕ → List ℕ → Least
least_between [] t = Nothing
least_between (x ∷ xs) t = least_after (ends_with_dot (x ∷ xs)) x (head t)

-- ---- reading items

-- how far items are read
pub record Stage : Type 0 where
  -- what is collected of the texts so far
  pub collected : Collected
  -- the last text, or none
  pub last : List ℕ
  -- where the next one stands
  pub place : Place
  -- since then there was an optional text
  pub marked : Bool

-- before the first item
abbrev pub first_stage : Stage
first_stage = record { collected = none_collected; last = []; place = at_start; marked = false }

-- what the gap before the next text has at least
abbrev pub least_at : Place → Least
least_at (Before r) = Nothing
least_at (After r l) = l

-- the gap before the next text has what it has to have between the last text and this one
abbrev pub IsApart : Stage → List ℕ → Type 0
IsApart a s = more (least_between a.last s) (least_at a.place) ≡ least_at a.place

-- a line end that may or may not be in the gap changes nothing: a bracket is open, or no statement has begun
abbrev pub LinesAgree : Place → Collected → Type 0
LinesAgree (After r LineEnd) c = ⊤
LinesAgree (After AnyLine l) c = line_ended c ≡ c
LinesAgree (Before AnyLine) c = line_ended c ≡ c
LinesAgree p c = ⊤

-- after an optional text comes a closing bracket
abbrev pub AgreesWithMark : Bool → List ℕ → Type 0
AgreesWithMark false s = ⊤
AgreesWithMark true s = role s ≡ a_closing

-- the text may stand next
pub record MayStand (a : Stage) (s : List ℕ) : Type 0 where
  pub apart : IsApart a s
  pub lines : LinesAgree a.place a.collected
  pub mark : AgreesWithMark a.marked s

-- some bracket is open
abbrev pub IsInside : ℕ → Type 0
IsInside zero = ⊥
IsInside (suc n) = ⊤

-- the optional text may stand next: it is a comma in brackets, where no comma waits already
pub record MayMark (a : Stage) (s : List ℕ) : Type 0 where
  pub comma : s ≡ byte.comma ∷ []
  pub apart : IsApart a s
  pub inside : IsInside a.collected.depth
  pub no_comma : a.collected.comma ≡ false
  pub no_mark : a.marked ≡ false

-- what is collected before the next text, where a line end that the gap has is read
abbrev pub collected_at : Place → Collected → Collected
collected_at (After r LineEnd) c = line_ended c
collected_at p c = c

-- after one more text
abbrev pub after_shown : Stage → List ℕ → Stage
after_shown a s =
    record { collected = with_lexeme (collected_at a.place a.collected) s; last = s; place = after_text; marked = false }

-- the items are read from the first stage to the second, and none of them is late
abbrev pub AreRead : Stage → List Item → Stage → Type 0
AreRead a [] b = a ≡ b
AreRead a (Shown s ∷ items) b = IsWholeLexeme s × MayStand a s × AreRead (after_shown a s) items b
AreRead a (Gap r l ∷ items) b = AreRead (record a { place = with_gap r l a.place }) items b
AreRead a (Mark s ∷ items) b = MayMark a s × AreRead (record a { marked = true }) items b
AreRead a (Late i ∷ items) b = ⊥

-- any text may stand next
abbrev pub IsReady : Stage → Type 0
IsReady a = (s : List ℕ) → MayStand a s
