-- Following the instructions of a program, one after the other.
use Rattle.std.proofs.Common.{◌≡◌, ◌∙◌, ℕ, List, [], ◌∷◌, ◌++◌, append_assoc, append-nil, refl, sym, ap, Option, Some}
use Rattle.prettyless_model.specs.Tree.{Tree}
use Rattle.prettyless_program.specs.Faults.{Reaches, RefusesProgram, Stops}
use Rattle.prettyless_program.specs.Instructions.{Instruction}
use Rattle.prettyless_program.specs.Programs.{CodeItem, IsWritable, WritesDocument, then_made, written, encoded, run}
use Rattle.prettyless_program.specs.Programs.{item_step, whole}
use Rattle.prettyless_program.specs.declared.fault.ProgramFault.{ProgramFault}
use Rattle.prettyless_program.proofs.NoDocument.{writes_none}
use Rattle.prettyless_program.proofs.Runs.{run-append, encoded-append, All-append}

-- before the first
pub at_first : (bytes : List ℕ) → Reaches bytes bytes []
at_first bytes = record { instructions = []; writable = tt; bytes = refl; made = refl }

-- after one more
pub one_more : (bytes before rest : List ℕ) (old new : List CodeItem) (i : Instruction) → Reaches bytes before old →
    before ≡ written i ++ rest
    → IsWritable i → item_step i old ≡ Some new → Reaches bytes rest new
one_more bytes before rest old new i r e w s = record {
  instructions = r.instructions ++ i ∷ [];
  writable = All-append r.instructions (i ∷ []) r.writable (w, tt);
  bytes =
      r.bytes ∙ ap (λ (x : List ℕ). encoded r.instructions ++ x) (e ∙ ap (λ (x : List ℕ). x ++ rest) (sym (append-nil (written i))))
      ∙ sym (append_assoc (encoded r.instructions) (encoded (i ∷ [])) rest)
      ∙ ap (λ (x : List ℕ). x ++ rest) (sym (encoded-append r.instructions (i ∷ [])));
  made = run-append r.instructions (i ∷ []) [] ∙ ap (λ (o : Option (List CodeItem)). then_made o (run (i ∷ []))) r.made
      ∙ ap (λ (o : Option (List CodeItem)). then_made o (run [])) s;
}

-- at the end
pub at_end : (bytes rest : List ℕ) (items : List CodeItem) (d : Tree) → Reaches bytes rest items → rest ≡ [] → whole items ≡ Some d
    → WritesDocument bytes d
at_end bytes rest items d r e w = record {
  instructions = r.instructions;
  writable = r.writable;
  bytes = r.bytes ∙ ap (λ (x : List ℕ). encoded r.instructions ++ x) e ∙ append-nil (encoded r.instructions);
  document = ap (λ (o : Option (List CodeItem)). then_made o whole) r.made ∙ w;
}

-- where it stops
pub refused : (fault : ProgramFault) (bytes rest : List ℕ) (items : List CodeItem) → Reaches bytes rest items → Stops fault rest items
    → RefusesProgram fault bytes
refused fault bytes rest items r s =
    λ other. (record { rest = rest; items = items; reached = r; stops = s }, writes_none fault bytes rest items other r s)

pub ruleset reaching = (at_first, one_more, at_end, refused)
