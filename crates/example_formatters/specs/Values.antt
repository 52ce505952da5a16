-- The document of a value, as a tree.
use Rattle.std.specs.Prelude.{pos, codes, List, [], ◌∷◌, ◌++◌}
use Rattle.std.specs.Fmt.{decimal}
use Rattle.std.specs.List.{AllZip}
use Rattle.prettyless.specs.Tree.{Tree}
use Rattle.prettyless.specs.Counted.{as_string, text}
use Rattle.prettyless.specs.Lists.{bracketed, punctuated}
use Rattle.prettyless.specs.Shown.{with_gaps}
use Rattle.prettyless.specs.Shows.{Item, Shown, apart, loose, shows}
use Rattle.example_formatters.specs.declared.values.Value.{Value}
use Rattle.example_formatters.specs.declared.values.Value.TheOpen.{Value-F}
use Rattle.example_formatters.specs.declared.values.Value.TheFolds.{fold-Value}

-- trees between brackets, each but the last with a comma
abbrev pub list_of : List Tree → Tree
list_of xs = bracketed (text (91 ∷ [])) (punctuated (text (44 ∷ [])) xs) (text (93 ∷ [])) (pos 2)

-- items in order, with a comma and then a space or a line end in each gap, and with any gap before and after them all
abbrev pub with_commas : List (List Item) → List Item
with_commas [] = []
with_commas (items ∷ lists) = loose ∷ (with_gaps (Shown (codes ",") ∷ apart ∷ []) (items ∷ lists) ++ loose ∷ [])

-- documents between brackets show what they show, with commas between them and brackets around them all; the brackets of
-- an empty list stand side by side
abbrev pub ListsShow : Type 0
ListsShow =
    (xs : List Tree) (lists : List (List Item)) → AllZip shows xs lists
    → shows (list_of xs) (Shown (codes "[") ∷ (with_commas lists ++ Shown (codes "]") ∷ []))

-- one level, with the tree of each value in its place
abbrev pub value_level : Value-F Tree → Tree
value_level (Value-F.Number n) = as_string (decimal n)
value_level (Value-F.List xs) = list_of xs.items

-- the tree of a value
abbrev pub value_document : Value → Tree
value_document = fold-Value Tree value_level
