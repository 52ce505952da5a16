-- What holds of bytes that show lexemes, in each language.
use Rattle.std.specs.Prelude.{◌≡◌, ℕ, List, None}
use Rattle.prettyless_model.specs.declared.options.RenderOptions.{RenderOptions}
use Rattle.prettyless_model.specs.Tree.{Tree}
use Rattle.prettyless_model.specs.Layout.{layout, Whole}
use Rattle.prettyless_model.specs.Shows.{Item, AreShown, AreFixed, at_start, shows, texts}
use Rattle.text_lexemes.specs.Languages.{Language, lexemes_in}
use Rattle.shown_lexemes.specs.Neighbours.{AreTextsOf, PassesGaps, AreApart, Neighbours, AreAsAsked}

-- bytes that show items whose texts may follow each other have these texts as lexemes, in their order
abbrev pub ShownAreLexemes : Type 0 → Type 0
ShownAreLexemes Inner =
    (L : Language Inner) (bytes : List ℕ) (items : List Item) → PassesGaps L → AreApart L None at_start items → AreShown bytes items
    → AreTextsOf items (lexemes_in L bytes)

-- the same of items whose gaps are as a table of neighbours asks
abbrev pub TablesShowLexemes : Type 0 → Type 0
TablesShowLexemes Inner =
    (L : Language Inner) (table : Neighbours L) (bytes : List ℕ) (items : List Item) → PassesGaps L
    → AreAsAsked table None at_start items → AreShown bytes items → AreTextsOf items (lexemes_in L bytes)

-- so has a whole layout of a document that shows such items
abbrev pub LayoutsHaveLexemes : Type 0 → Type 0
LayoutsHaveLexemes Inner =
    (L : Language Inner) (o : RenderOptions) (d : Tree) (bytes : List ℕ) (items : List Item) → PassesGaps L
    → AreApart L None at_start items → shows d items → layout o d ≡ Whole bytes → AreTextsOf items (lexemes_in L bytes)

-- where no text is optional, the texts of items are those that they list
abbrev pub FixedTextsAreListed : Type 0
FixedTextsAreListed = (items : List Item) (ss : List (List ℕ)) → AreFixed items → AreTextsOf items ss → ss ≡ texts items
