-- Bytes with a fault write no document.
use Rattle.std.proofs.Common.{◌≡◌, ◌∙◌, ℕ, List, [], ◌∷◌, refl, sym, ap, subst, Option, Some, None}
use Rattle.std.specs.List.{AllByRecursion}
use Rattle.prettyless_model.specs.Tree.{Tree}
use Rattle.prettyless_program.specs.Faults.{IsStuck, Stops, Reaches, WritesNone}
use Rattle.prettyless_program.specs.Instructions.{Instruction, Close}
use Rattle.prettyless_program.specs.Programs.{CodeItem, IsText, IsWritable, then_made, encoded, run, item_step, whole}
use Rattle.prettyless_program.specs.declared.fault.ProgramFault.{ProgramFault}
use Rattle.prettyless_program.specs.declared.fault.ProgramFault.TheVariants.{Memory, Instruction as NoInstruction, Operand, Text, Document}
use Rattle.prettyless_program.specs.declared.fault.ProgramFault.TheVariants.{Unopened, Unclosed}
use Rattle.prettyless_program.proofs.Runs.{run-append}
use Rattle.prettyless_program.proofs.Reading.{instruction_same, not_short}
use Rattle.prettyless_program.proofs.Same.{goes_on}

none_some : (d : Tree) → None ≡ Some d → ⊥
none_some d e = absurd cc

-- where an instruction is stuck, no document comes of it and of what follows
stuck : (j : Instruction) (later : List Instruction) (items : List CodeItem) (d : Tree) → AllByRecursion IsWritable later
    → IsStuck j (encoded later) items → then_made (run later items) whole ≡ Some d → ⊥
stuck j [] items d w s m = absurd (let e = s.1.1 in cc)
stuck j (i ∷ is) items d w s m =
    let h = instruction_same i j (encoded is) s.1.0 w.0.0 s.0.0 s.1.1 in
    let e : item_step i items ≡ None = ap (λ (x : Instruction). item_step x items) h.0 ∙ s.2 in
    none_some d (sym (ap (λ (o : Option (List CodeItem)). then_made (then_made o (run is)) whole) e) ∙ m)

-- instructions that make a document do not stop
goes_through : (fault : ProgramFault) (later : List Instruction) (items : List CodeItem) (d : Tree) → ¬ (fault ≡ Memory)
    → AllByRecursion IsWritable later → Stops fault (encoded later) items → then_made (run later items) whole ≡ Some d → ⊥
goes_through Memory later items d other w s m = other refl
goes_through NoInstruction [] items d other w s m = absurd (let e = s.2 in cc)
goes_through NoInstruction (i ∷ is) items d other w s m = s.3 i (let e = s.2 in cc)
goes_through Operand [] items d other w s m = absurd (let e = s.2 in cc)
goes_through Operand (i ∷ is) items d other w s m = not_short i s.0 (encoded is) s.1 w.0.0 s.3 s.2
goes_through Text [] items d other w s m = absurd (let e = s.2 in cc)
goes_through Text (i ∷ is) items d other w s m =
    let h = instruction_same i s.0 (encoded is) s.1 w.0.0 s.3 s.2 in
    s.4 (subst IsText h.0 w.0.1)
goes_through Document later items d other w s m = stuck s.0 later items d w s.2 m
goes_through Unopened later items d other w s m = stuck Close later items d w s m
goes_through Unclosed [] items d other w s m = none_some d (sym s.1 ∙ m)
goes_through Unclosed (i ∷ is) items d other w s m = absurd (let e = s.0 in cc)

pub writes_none : (fault : ProgramFault) (bytes rest : List ℕ) (items : List CodeItem) → ¬ (fault ≡ Memory) → Reaches bytes rest items
    → Stops fault rest items → WritesNone bytes
writes_none fault bytes rest items other reached stops d w =
    let k = goes_on reached.instructions w.instructions rest reached.writable w.writable (sym w.bytes ∙ reached.bytes) in
    let runs : run w.instructions [] ≡ run k.later items =
    ap (λ (is : List Instruction). run is []) k.all ∙ run-append reached.instructions k.later []
    ∙ ap (λ (o : Option (List CodeItem)). then_made o (run k.later)) reached.made in
    goes_through fault k.later items d other k.writable (subst (λ (r : List ℕ). Stops fault r items) k.bytes stops)
    (sym (ap (λ (o : Option (List CodeItem)). then_made o whole) runs) ∙ w.document)
