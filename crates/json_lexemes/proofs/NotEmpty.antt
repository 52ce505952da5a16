-- No lexeme is empty, and none begins with a space.
use Rattle.std.proofs.Common.{◌≡◌, ◌≢◌, ℕ, false, List, [], ◌∷◌, All, sym, subst}
use Rattle.std.specs.Prelude.{⊤}
use Rattle.json.specs.Word.{is_space}
use Rattle.json.specs.Lex.{between}
use Rattle.text_lexemes.specs.Languages.{lexemes_in}
use Rattle.text_lexemes.specs.SpacedTexts.{MayFollow, IsWellSpaced}
use Rattle.text_lexemes.proofs.WellSpaced as law
use Rattle.json_lexemes.specs.JsonLanguage.{json_language}
use Rattle.json_lexemes.specs.Lexemes.{cut}
use Rattle.json_lexemes.proofs.JsonLanguage.{cut_language}

-- it has a first byte, which is no space
abbrev pub IsBegun : List ℕ → Type 0
IsBegun [] = ⊥
IsBegun (x ∷ xs) = is_space x ≡ false

abbrev pub AreBegun : List (List ℕ) → Type 0
AreBegun [] = ⊤
AreBegun (s ∷ ss) = IsBegun s × AreBegun ss

begun : (s rest : List ℕ) → MayFollow json_language s rest → IsBegun s
begun [] rest h = h
begun (x ∷ xs) rest h = h.0

each_begun : (ss : List (List ℕ)) (text : List ℕ) → IsWellSpaced json_language text ss → AreBegun ss
each_begun [] text h = tt
each_begun (s ∷ ss) text (g, rest, gap, is, follows, h) = (begun s rest follows, each_begun ss rest h)

pub lexemes_begun : (text : List ℕ) → AreBegun (cut between text)
lexemes_begun text =
    subst AreBegun (sym (cut_language text between)) (each_begun (lexemes_in json_language text) text (law.well_spaced json_language text))

pub lexemes_some : (text : List ℕ) → All (λ s. s ≢ []) (cut between text)
lexemes_some text = subst (All (λ s. s ≢ [])) (sym (cut_language text between)) (law.lexemes_some json_language text)
