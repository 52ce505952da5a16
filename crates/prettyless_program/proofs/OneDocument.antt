-- Bytes write at most one document; each document has a program.
use Rattle.std.proofs.Common.{◌≡◌, ◌∙◌, List, [], ◌∷◌, ◌++◌, append-nil, refl, sym, ap, Some}
use Rattle.prettyless_model.specs.Tree.{Tree}
use Rattle.prettyless_program.specs.Laws.{WriteAtMostOne}
use Rattle.prettyless_program.specs.Instructions.{Instruction}
use Rattle.prettyless_program.specs.Programs.{then_made, encoded, run, whole}
use Rattle.prettyless_program.proofs.Same.{goes_on}

some_tree : (d e : Tree) → Some d ≡ Some e → d ≡ e
some_tree d e h = cc

none_later : (later : List Instruction) → [] ≡ encoded later → later ≡ []
none_later [] e = refl
none_later (i ∷ is) e = absurd cc

pub at_most_one : WriteAtMostOne
at_most_one bytes d e v w =
    let k = goes_on w.instructions v.instructions [] w.writable v.writable
    (sym v.bytes ∙ w.bytes ∙ sym (append-nil (encoded w.instructions))) in
    let same : v.instructions ≡ w.instructions = k.all ∙ ap (λ (is : List Instruction). w.instructions ++ is) (none_later k.later k.bytes)
    ∙ append-nil w.instructions in
    some_tree d e (sym v.document ∙ ap (λ (is : List Instruction). then_made (run is []) whole) same ∙ w.document)
