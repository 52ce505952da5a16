-- Instructions that are followed one after the other.
use Rattle.std.proofs.Common.{◌≡◌, ◌∙◌, ℕ, List, [], ◌∷◌, ◌++◌, append_assoc, refl, sym, ap, Option, Some, None}
use Rattle.std.specs.List.{AllByRecursion}
use Rattle.prettyless_program.specs.Instructions.{Instruction}
use Rattle.prettyless_program.specs.Programs.{CodeItem, IsWritable, written, encoded, then_made, run, item_step}

-- a step, and then two more
and_then-assoc : (o : Option (List CodeItem)) (f g : List CodeItem → Option (List CodeItem)) →
    then_made o (λ items. then_made (f items) g) ≡ then_made
    (then_made o f) g
and_then-assoc None f g = refl
and_then-assoc (Some items) f g = refl

-- the same after a step
and_then-same : (o : Option (List CodeItem)) (f g : List CodeItem → Option (List CodeItem)) → ((items : List CodeItem) → f items ≡ g items)
    → then_made o f ≡ then_made o g
and_then-same None f g e = refl
and_then-same (Some items) f g e = e items

-- the later ones go on with what the earlier ones made
pub run-append : (is js : List Instruction) (items : List CodeItem) → run (is ++ js) items ≡ then_made (run is items) (run js)
run-append [] js items = refl
run-append (i ∷ is) js items =
    and_then-same (item_step i items) (run (is ++ js)) (λ next. then_made (run is next) (run js)) (run-append is js)
    ∙ and_then-assoc (item_step i items) (run is) (run js)

-- their bytes are one after the other
pub encoded-append : (is js : List Instruction) → encoded (is ++ js) ≡ encoded is ++ encoded js
encoded-append [] js = refl
encoded-append (i ∷ is) js = ap (λ (r : List ℕ). written i ++ r) (encoded-append is js)
    ∙ sym (append_assoc (written i) (encoded is) (encoded js))

-- what a program may have, it may have one after the other
pub All-append : (is js : List Instruction) → AllByRecursion IsWritable is → AllByRecursion IsWritable js
    → AllByRecursion IsWritable (is ++ js)
All-append [] js wi wj = wj
All-append (i ∷ is) js wi wj = (wi.0, All-append is js wi.1 wj)
