-- A text is its lexemes, with gaps around them.
use Rattle.std.proofs.Common.{ℕ, List, [], ◌∷◌, sym, subst}
use Rattle.json.specs.Lex.{between}
use Rattle.text_lexemes.specs.Languages.{lexemes_in}
use Rattle.text_lexemes.specs.SpacedTexts as text
use Rattle.text_lexemes.proofs.WellSpaced.{spaced}
use Rattle.json_lexemes.specs.JsonLanguage.{json_language}
use Rattle.json_lexemes.specs.Lexemes.{cut}
use Rattle.json_lexemes.specs.Spaced.{IsGap, IsSpacedJson}
use Rattle.json_lexemes.proofs.JsonLanguage.{cut_language}

json_gap : (g : List ℕ) → text.IsGap json_language g → IsGap g
json_gap [] h = tt
json_gap (x ∷ g) h = (h.0, json_gap g h.1)

json_spaced : (ss : List (List ℕ)) (bytes : List ℕ) → text.IsSpacedText json_language bytes ss → IsSpacedJson bytes ss
json_spaced [] bytes h = json_gap bytes h
json_spaced (s ∷ ss) bytes (g, rest, gap, is, h) = (g, rest, json_gap g gap, is, json_spaced ss rest h)

pub IsSpaced-lexemes : (text : List ℕ) → IsSpacedJson text (cut between text)
IsSpaced-lexemes text =
    subst (IsSpacedJson text) (sym (cut_language text between))
    (json_spaced (lexemes_in json_language text) text (spaced json_language text))
