-- What lists of documents show, where each of the documents shows items.
use Rattle.std.specs.Prelude.{◌≡◌, ℕ, ℤ, List, [], ◌∷◌, ◌++◌}
use Rattle.std.specs.List.{AllZip}
use Rattle.prettyless_trees.specs.Counted as counted
use Rattle.prettyless_model.specs.Tree.{Tree}
use Rattle.prettyless_model.specs.Shows.{Item, Shown, apart, loose, shows}
use Rattle.prettyless_trees.specs.Lists.{change_all_but_last, punctuated, bracketed}
use Rattle.prettyless_trees.specs.Words.{intersperse}

-- a text itself, unless it is empty
abbrev pub text_items : List ℕ → List Item
text_items [] = []
text_items (b ∷ bs) = Shown (b ∷ bs) ∷ []

-- items in order, with others in front of each
abbrev pub after_gaps : List Item → List (List Item) → List Item
after_gaps gap [] = []
after_gaps gap (items ∷ lists) = gap ++ (items ++ after_gaps gap lists)

-- items in order, with others in each gap
abbrev pub with_gaps : List Item → List (List Item) → List Item
with_gaps gap [] = []
with_gaps gap (items ∷ lists) = items ++ after_gaps gap lists

-- items between brackets, each on a line of its own where they are not flat
abbrev pub in_lines : List (List Item) → List Item
in_lines [] = []
in_lines (items ∷ lists) = loose ∷ (with_gaps (apart ∷ []) (items ∷ lists) ++ loose ∷ [])

-- what `text` and `as_string` make of a text shows the text
abbrev pub TextsShow : Type 0
TextsShow = (s : List ℕ) → shows (counted.text s) (text_items s) × shows (counted.as_string s) (text_items s)

-- trees with a separator in each gap show their items with the separator's in each gap
abbrev pub SeparatedShow : Type 0
SeparatedShow =
    (separator : Tree) (xs : List Tree) (gap : List Item) (lists : List (List Item)) → shows separator gap → AllZip shows xs lists
    → shows (intersperse separator xs) (with_gaps gap lists)

-- trees with punctuation after them show their items, each but the last with the punctuation's after them
abbrev pub PunctuatedShow : Type 0
PunctuatedShow =
    (mark : Tree) (xs : List Tree) (marked : List Item) (lists : List (List Item)) → shows mark marked → AllZip shows xs lists
    → AllZip shows (punctuated mark xs) (change_all_but_last (λ items. items ++ marked) lists)

-- trees between brackets show their items between those of the brackets
abbrev pub BracketedShow : Type 0
BracketedShow =
    (before after : Tree) (k : ℤ) (xs : List Tree) (first last : List Item) (lists : List (List Item)) → shows before first
    → shows after last
    → AllZip shows xs lists → shows (bracketed before xs after k) (first ++ (in_lines lists ++ last))

-- punctuation after all items but the last stands in each gap
abbrev pub MarksStandInGaps : Type 0
MarksStandInGaps =
    (marked gap : List Item) (lists : List (List Item)) → with_gaps gap (change_all_but_last (λ items. items ++ marked) lists) ≡ with_gaps
    (marked ++ gap) lists
