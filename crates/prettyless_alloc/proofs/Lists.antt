-- Punctuation after all documents but the last, and brackets around some documents.
use Rattle.std.proofs.Common.{◌≡◌, refl, sym, ◌∙◌, ap, ◌<◌, ℤ, arith, List, [], ◌∷◌, ◌++◌, length, map}
use Rattle.std.proofs.lemmas.List.{map-append}
use Rattle.prettyless_trees.specs.Lines.{line, line_}
use Rattle.prettyless_model.specs.Tree.{Tree}
use Rattle.prettyless_trees.specs.Built.{append, enclose, group, nest}
use Rattle.prettyless_trees.specs.Lists.{change_all_but_last, punctuated, bracketed}
use Rattle.prettyless_trees.specs.Words.{intersperse}

module _ {A : Type 0} (f : A → A) where
  -- of items and a last one each of the items is changed
  changed_before_last : (xs : List A) (last : A) → change_all_but_last f (xs ++ last ∷ []) ≡ map f xs ++ last ∷ []
  changed_before_last [] last = refl
  changed_before_last (x ∷ []) last = refl
  changed_before_last (x ∷ y ∷ ys) last = ap (λ (zs : List A). f x ∷ zs) (changed_before_last (y ∷ ys) last)

-- marked documents and a last one are punctuated
pub marked_before_last : {A : Type 0} (tree : A → Tree) (mark : Tree) (docs others marked all : List A) (last : A)
    → docs ≡ others ++ last ∷ [] → map tree marked ≡ map (λ x. append x mark) (map tree others) → all ≡ marked ++ last ∷ []
    → map tree all ≡ punctuated mark (map tree docs)
marked_before_last {A} tree mark docs others marked all last whole each made =
    ap (map tree) made
    ∙ map-append tree marked (last ∷ [])
    ∙ ap (λ (xs : List Tree). xs ++ tree last ∷ []) each
    ∙ sym (changed_before_last (λ (x : Tree). append x mark) (map tree others) (tree last))
    ∙ sym (ap (punctuated mark) (ap (map tree) whole ∙ map-append tree others (last ∷ [])))

-- between brackets some trees are nested, each on its line
pub bracketed_some : (before after : Tree) (k : ℤ) (xs : List Tree) → 0 < length xs
    → bracketed before xs after k ≡ group (enclose before (append (nest k (append line_ (intersperse line xs))) line_) after)
bracketed_some before after k [] some = absurd (omega arith)
bracketed_some before after k (x ∷ xs) some = refl
