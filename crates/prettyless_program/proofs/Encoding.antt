-- The program of a document makes it.
use Rattle.std.proofs.Common.{◌≡◌, ◌∙◌, List, [], ◌∷◌, ◌++◌, append_assoc, append-nil, refl, sym, ap, Option}
use Rattle.std.specs.List.{AllByRecursion}
use Rattle.prettyless_model.specs.declared.kind.Single.{Single}
use Rattle.prettyless_model.specs.declared.kind.Pair.{Pair}
use Rattle.prettyless_model.specs.Tree as tree
use Rattle.prettyless_model.specs.Tree.{Tree, One, Two}
use Rattle.prettyless_program.specs.Instructions.{Instruction, Wrap, Both}
use Rattle.prettyless_program.specs.Laws.{EachHasAProgram, IsProper, instructions_of}
use Rattle.prettyless_program.specs.Programs.{CodeItem, Document, IsWritable, then_made, run, whole}
use Rattle.prettyless_program.proofs.Runs.{All-append}

-- these instructions put the document on top, whatever is below it and whatever follows
abbrev Makes : List Instruction → Tree → Type 0
Makes is d = (js : List Instruction) (items : List CodeItem) → run (is ++ js) items ≡ run js (Document d ∷ items)

makes_over : (is : List Instruction) (kind : Single) (d : Tree) → Makes is d → Makes (is ++ Wrap kind ∷ []) (One kind d)
makes_over is kind d m js items =
    ap (λ (ks : List Instruction). run ks items) (append_assoc is (Wrap kind ∷ []) js) ∙ m (Wrap kind ∷ js) items

makes_both : (is ks : List Instruction) (kind : Pair) (l r : Tree) → Makes is l → Makes ks r
    → Makes (is ++ (ks ++ Both kind ∷ [])) (Two kind l r)
makes_both is ks kind l r m n js items =
    ap (λ (hs : List Instruction). run hs items) (append_assoc is (ks ++ Both kind ∷ []) js) ∙ m ((ks ++ Both kind ∷ []) ++ js) items
    ∙ ap (λ (hs : List Instruction). run hs (Document l ∷ items)) (append_assoc ks (Both kind ∷ []) js)
    ∙ n (Both kind ∷ js) (Document l ∷ items)

makes : (d : Tree) → IsProper d → Makes (instructions_of d) d
makes (One kind d) p = makes_over (instructions_of d) kind d (makes d p.1)
makes (Two kind l r) p = makes_both (instructions_of l) (instructions_of r) kind l r (makes l p.1) (makes r p.2)
makes (tree.MultilineText s) p = λ js items. rw p.1 refl
makes d p = λ js items. refl

writable : (d : Tree) → IsProper d → AllByRecursion IsWritable (instructions_of d)
writable (tree.Text s) p = ((p.0, p.1), tt)
writable (tree.TextWithLen n s) p = (((p.0, p.1.0), p.1.1), tt)
writable (tree.MultilineText s) p = ((p.0.0, p.0.1), tt)
writable (One kind d) p = All-append (instructions_of d) (Wrap kind ∷ []) (writable d p.1) ((p.0, tt), tt)
writable (Two kind l r) p = All-append (instructions_of l) (instructions_of r ++ Both kind ∷ []) (writable l p.1)
    (All-append (instructions_of r) (Both kind ∷ []) (writable r p.2) ((p.0, tt), tt))
writable d p = ((tt, tt), tt)

pub each_has_a_program : EachHasAProgram
each_has_a_program d p = record {
  instructions = instructions_of d;
  writable = writable d p;
  bytes = refl;
  document =
      ap (λ (is : List Instruction). then_made (run is []) whole) (sym (append-nil (instructions_of d)))
      ∙ ap (λ (o : Option (List CodeItem)). then_made o whole) (makes d p [] []);
}
