-- What is on top of the items.
use Rattle.std.proofs.Common.{◌≡◌, List, [], ◌∷◌, ◌++◌, refl, ap}
use Rattle.prettyless_model.specs.Tree.{Tree}
use Rattle.prettyless_program.specs.Programs.{CodeItem}
use Rattle.prettyless_program.specs.Made.{entry_item, items_of_entries}
use Rattle.prettyless_program.specs.declared.stack.StackEntry.{StackEntry}

pub items_of_push : {T : Type 0} → (tree : T → Tree) (es : List (StackEntry T)) (e : StackEntry T) →
    items_of_entries tree (es ++ e ∷ []) ≡ entry_item tree
    e ∷ items_of_entries tree es
items_of_push tree [] e = refl
items_of_push tree (x ∷ es) e = ap (λ (r : List CodeItem). r ++ entry_item tree x ∷ []) (items_of_push tree es e)
