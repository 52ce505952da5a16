-- Items that show lexemes of a small language.
use Rattle.std.specs.Prelude.{◌≡◌, ℕ, List, map, codes}
use Prim.Native.String.{String}
use Rattle.prettyless_model.specs.Shows.{Item, Shown, AreShown}
use Rattle.text_lexemes.specs.Languages.{lexemes_in}
use Rattle.text_lexemes.specs.Rows.{small_language}

-- a text that is ASCII
abbrev pub shown_ascii : String → Item
shown_ascii s = Shown (codes s)

-- bytes that show the items have these lexemes
abbrev pub ShowLexemes : List Item → List String → Type 0
ShowLexemes items ss = (bytes : List ℕ) → AreShown bytes items → lexemes_in small_language bytes ≡ map codes ss
