-- Lists of documents: punctuation after them, and brackets around them.
use Rattle.std.specs.Prelude.{ℤ, List, [], ◌∷◌}
use Rattle.prettyless_model.specs.Tree.{Tree}
use Rattle.prettyless_trees.specs.Lines.{line, line_}
use Rattle.prettyless_trees.specs.Built.{append, enclose, group, nest}
use Rattle.prettyless_trees.specs.Words.{intersperse}

-- a list with each item but the last changed
abbrev pub change_all_but_last : {A : Type 0} → (A → A) → List A → List A
change_all_but_last f [] = []
change_all_but_last f (x ∷ []) = x ∷ []
change_all_but_last f (x ∷ y ∷ ys) = f x ∷ change_all_but_last f (y ∷ ys)

-- trees, each but the last with punctuation after it
abbrev pub punctuated : Tree → List Tree → List Tree
punctuated mark xs = change_all_but_last (λ x. append x mark) xs

-- Trees between two others, in a group: nested by k on lines of their own, or flat with a space in each gap. Where there is
-- no tree, the two others stand side by side.
abbrev pub bracketed : Tree → List Tree → Tree → ℤ → Tree
bracketed before [] after k = append before after
bracketed before (x ∷ xs) after k =
    group (enclose before (append (nest k (append line_ (intersperse line (x ∷ xs)))) line_) after)
