use Rattle.std.proofs.Common.{◌≡◌, refl, ap, subst, pos, codes, List, [], ◌∷◌, ◌++◌}
use Rattle.prettyless.specs.Counted.{text}
use Rattle.prettyless.specs.Lists.{change_all_but_last, punctuated}
use Rattle.prettyless.specs.Shown.{in_lines}
use Rattle.prettyless.specs.Shows.{Item, Shown, apart, loose, shows}
use Rattle.prettyless.proofs.ShownItems.{bracketed_shows, marks_stand_in_gaps, punctuated_shows, text_shows}
use Rattle.example_formatters.specs.Values.{list_of, with_commas}
use Rattle.example_formatters.proofs.laws.law_list.Goals as goal

abbrev comma : List Item
comma = Shown (codes ",") ∷ []

-- items, each but the last with a comma after them
abbrev marked : List (List Item) → List (List Item)
marked lists = change_all_but_last (λ (items : List Item). items ++ comma) lists

-- the commas are punctuation first, and then stand in the gaps
commas_in_lines : (lists : List (List Item)) → in_lines (marked lists) ≡ with_commas lists
commas_in_lines [] = refl
commas_in_lines (items ∷ []) = refl
commas_in_lines (items ∷ next ∷ lists) =
    ap (λ (inner : List Item). loose ∷ (inner ++ loose ∷ [])) (marks_stand_in_gaps comma (apart ∷ []) (items ∷ next ∷ lists))

pub returns : goal.returns
returns c xs lists each =
    let before : List Item = Shown (codes "[") ∷ [] in
    let after : List Item = Shown (codes "]") ∷ [] in
    let commas = punctuated_shows (text (codes ",")) xs comma lists (text_shows (codes ",")) each in
    let list = bracketed_shows (text (codes "[")) (text (codes "]")) (pos 2) (punctuated (text (codes ",")) xs) before after (marked lists)
    (text_shows (codes "[")) (text_shows (codes "]")) commas in
    subst (λ (items : List Item). shows (list_of xs) (before ++ (items ++ after))) (commas_in_lines lists) list
