-- Documents that show entries, one after the other.
use Rattle.std.proofs.Common.{◌≡◌, sym, ap, subst, ◌∙◌, ℕ, ◌+◌, ◌<◌, List, [], ◌∷◌, ◌++◌, length, map, take, get_or}
use Rattle.std.proofs.lemmas.List.{take_more, map-append}
use Rattle.std.specs.List.{AllZip}
use Rattle.prettyless.specs.Shows.{shows}
use Rattle.prettyless.specs.Tree.{Tree}
use Rattle.prettyless_shapes.proofs.ShapesShow.{each_and_one}
use Rattle.example_formatters.specs.EntryItems.{entry_items}
use Rattle.example_formatters.specs.declared.entry.ConfigurationEntry.{ConfigurationEntry}

-- the next entry, and a document that shows it
pub one_more : {A : Type 0} (tree : A → Tree) (docs : List A) (doc : A) (entries : List ConfigurationEntry) (i : ℕ)
    (entry : ConfigurationEntry) → i < length entries → entry ≡ get_or entries i entry
    → AllZip shows (map tree docs) (map entry_items (take i entries)) → shows (tree doc) (entry_items entry)
    → AllZip shows (map tree (docs ++ doc ∷ [])) (map entry_items (take (i + 1) entries))
one_more tree docs doc entries i entry within same each one =
    let before = take i entries in
    let next : take (i + 1) entries ≡ before ++ entry ∷ [] =
    take_more entries i entry within ∙ ap (λ (e : ConfigurationEntry). before ++ e ∷ []) (sym same) in
    let items = ap (map entry_items) next ∙ map-append entry_items before (entry ∷ []) in
    subst (AllZip shows (map tree (docs ++ doc ∷ []))) (sym items)
    (each_and_one tree docs doc (map entry_items before) (entry_items entry) each one)
