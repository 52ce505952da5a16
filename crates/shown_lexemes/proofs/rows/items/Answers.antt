use Rattle.std.proofs.Common.{◌≡◌, ℕ, List, [], ◌∷◌, None, refl}
use Rattle.prettyless_model.specs.Shows.{Item, AreShown, AreFixed, at_start, ended, loose, spaced, texts}
use Rattle.text_lexemes.specs.Languages.{lexemes_in}
use Rattle.text_lexemes.specs.Rows.{small_language}
use Rattle.shown_lexemes.specs.Neighbours.{AreAsAsked}
use Rattle.shown_lexemes.specs.Rows.{shown_ascii}
use Rattle.shown_lexemes.proofs.ShownTexts.{shown_are_lexemes, set_apart, fixed_texts}
use Rattle.shown_lexemes.proofs.SmallTable.{small_table, small_passes}
use Rattle.shown_lexemes.proofs.rows.items.Goals as goal

small_shown : (items : List Item) → AreFixed items → AreAsAsked small_table None at_start items → (bytes : List ℕ) → AreShown bytes items
    → lexemes_in small_language bytes ≡ texts items
small_shown items fixed asked bytes shown =
    fixed_texts items (lexemes_in small_language bytes) fixed
    (shown_are_lexemes small_language bytes items small_passes (set_apart small_language small_table items None at_start tt asked) shown)

pub returns-clause-names : goal.returns-clause-names
returns-clause-names c = small_shown (shown_ascii "a" ∷ spaced ∷ shown_ascii "b" ∷ []) tt (refl, tt, (refl, refl, refl))

pub returns-clause-signs : goal.returns-clause-signs
returns-clause-signs c =
    small_shown (shown_ascii "a" ∷ loose ∷ shown_ascii ";" ∷ shown_ascii "b" ∷ []) tt (refl, tt, (refl, refl, (refl, refl, refl)))

pub returns-clause-note : goal.returns-clause-note
returns-clause-note c =
    small_shown (shown_ascii "a" ∷ loose ∷ shown_ascii "# b" ∷ ended ∷ shown_ascii "c" ∷ loose ∷ []) tt (refl, tt, (refl, refl, (refl, refl, refl)))
