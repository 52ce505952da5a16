-- Statements that may be spelled.
use Rattle.std.specs.Prelude.{◌≡◌, ℕ, Bool, true, false, List, [], ◌∷◌, Option, Some, None, ⊤}
use Rattle.toml_grammar.specs.Dates.{is_date, is_time}
use Rattle.toml_grammar.specs.Keys.{key_word}
use Rattle.toml_grammar.specs.Comments.{is_comment}
use Rattle.toml_grammar.specs.Strings.{is_key_string, is_string}
use Rattle.toml_grammar.specs.Values.{is_value}
use Rattle.toml_lexemes.specs.Lexemes.{toml_lexemes_of}
use Rattle.toml_lexemes.specs.Spaced.{IsTomlGap}
use Rattle.toml_syntax.specs.TypedLexemes.{TomlLexeme, TypedAfterGap, string, word, is_clear_gap, lexeme_bytes, typed}
use Rattle.toml_syntax.specs.Tree.{Key, no_parts, with_word, with_string, Comments, no_comments, with_comment}
use Rattle.toml_syntax.specs.Tree.{TomlValue, plain, moment, quoted, array, table, ArrayItems, no_items, with_item, TableMembers}
use Rattle.toml_syntax.specs.Tree.{no_members, with_member}
use Rattle.toml_syntax.specs.Tree.{Body, note, header, pair, Remark, Statement}
use Rattle.toml_syntax.specs.Reading.{last_comma}

-- a gap is blanks alone, and no CR
abbrev pub IsClearGap : List ℕ → Type 0
IsClearGap g = IsTomlGap g × (is_clear_gap g false ≡ true)

-- a text that is this lexeme alone
abbrev pub StandsAlone : TomlLexeme → Type 0
StandsAlone l = (toml_lexemes_of (lexeme_bytes l) ≡ lexeme_bytes l ∷ []) × (typed (lexeme_bytes l) ≡ l)

-- the last part of a key is no word
abbrev pub EndsWithNoWord : Key → Type 0
EndsWithNoWord no_parts = ⊤
EndsWithNoWord (with_word k w) = ⊥
EndsWithNoWord (with_string k s) = ⊤

-- parts and dots alternate, and after them a part is due or not
abbrev pub IsFormedKey : Key → Bool → Type 0
IsFormedKey no_parts due = due ≡ true
IsFormedKey (with_word k w) due =
    EndsWithNoWord k × (before : Bool) × IsFormedKey k before × (key_word before w ≡ Some due) × StandsAlone (word w)
IsFormedKey (with_string k s) due = IsFormedKey k true × (is_key_string s ≡ true) × (due ≡ false) × StandsAlone (string s)

abbrev pub AreFormedComments : Comments → Type 0
AreFormedComments no_comments = ⊤
AreFormedComments (with_comment cs l s) = AreFormedComments cs × IsClearGap l.gap × (is_comment s ≡ true)

abbrev mutual
  pub IsFormedValue : TomlValue → Type 0
  IsFormedValue (plain w) = (is_value w ≡ true) × StandsAlone (word w)
  IsFormedValue (moment d t) = (is_value d ≡ true) × (is_date d ≡ true) × (is_time t ≡ true) × StandsAlone (word d) × StandsAlone (word t)
  IsFormedValue (quoted s) = (is_string s ≡ true) × StandsAlone (string s)
  IsFormedValue (array cs is b l) = AreFormedComments cs × AreFormedArrayItems is × (last_comma is b ≡ b) × IsClearGap l.gap
  IsFormedValue (table ms) = AreFormedTableMembers ms

  pub AreFormedArrayItems : ArrayItems → Type 0
  AreFormedArrayItems no_items = ⊤
  AreFormedArrayItems (with_item is l v cs) = AreFormedArrayItems is × IsClearGap l.gap × IsFormedValue v × AreFormedComments cs

  pub AreFormedTableMembers : TableMembers → Type 0
  AreFormedTableMembers no_members = ⊤
  AreFormedTableMembers (with_member ms k v) = AreFormedTableMembers ms × IsFormedKey k false × IsFormedValue v

abbrev pub IsFormedBody : Body → Type 0
IsFormedBody (note s) = is_comment s ≡ true
IsFormedBody (header b k) = IsFormedKey k false
IsFormedBody (pair k b v) = IsFormedKey k false × IsClearGap b × IsFormedValue v

-- a comment at the end of what is no comment itself
abbrev pub IsFormedRemark : Body → Option Remark → Type 0
IsFormedRemark b None = ⊤
IsFormedRemark (note s) (Some r) = ⊥
IsFormedRemark (header b k) (Some r) = IsClearGap r.gap × (is_comment r.text ≡ true)
IsFormedRemark (pair k b v) (Some r) = IsClearGap r.gap × (is_comment r.text ≡ true)

abbrev pub IsFormedStatement : Statement → Type 0
IsFormedStatement s = IsClearGap s.before.gap × IsFormedBody s.body × IsFormedRemark s.body s.remark

abbrev pub AreFormed : List Statement → Type 0
AreFormed [] = ⊤
AreFormed (s ∷ ss) = IsFormedStatement s × AreFormed ss

-- a word or a string stands alone
abbrev pub IsTextAlone : TomlLexeme → Type 0
IsTextAlone (string s) = StandsAlone (string s)
IsTextAlone (word w) = StandsAlone (word w)
IsTextAlone _ = ⊤

-- gaps are blanks alone, and words and strings stand alone
abbrev pub AreAlone : List TypedAfterGap → Type 0
AreAlone [] = ⊤
AreAlone (p ∷ ps) = IsTomlGap p.gap × IsTextAlone p.lexeme × AreAlone ps
