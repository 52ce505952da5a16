-- Bytes are written by at most one list of instructions.
use Rattle.std.proofs.Common.{◌≡◌, ◌∙◌, ℕ, List, [], ◌∷◌, ◌++◌, append_assoc, refl, sym}
use Rattle.std.specs.List.{AllByRecursion}
use Rattle.prettyless_program.specs.Instructions.{Instruction}
use Rattle.prettyless_program.specs.Programs.{IsWritable, written, encoded}
use Rattle.prettyless_program.proofs.Reading.{instruction_same}

-- instructions that are written at the beginning of the bytes of others are the first of these
pub record GoesOn (is js : List Instruction) (rest : List ℕ) : Type 0 where
  pub later : List Instruction
  pub writable : AllByRecursion IsWritable later
  pub all : is ≡ js ++ later
  pub bytes : rest ≡ encoded later

pub goes_on : (js is : List Instruction) (rest : List ℕ) → AllByRecursion IsWritable js → AllByRecursion IsWritable is
    → encoded is ≡ encoded js ++ rest → GoesOn is js rest
goes_on [] is rest wj wi e = record { later = is; writable = wi; all = refl; bytes = sym e }
goes_on (j ∷ js) [] rest wj wi e = absurd cc
goes_on (j ∷ js) (i ∷ is) rest wj wi e =
    let h = instruction_same i j (encoded is) (encoded js ++ rest) wi.0.0 wj.0.0 (e ∙ append_assoc (written j) (encoded js) rest) in
    let k = goes_on js is rest wj.1 wi.1 h.1 in
    record { later = k.later; writable = k.writable; all = (let a = k.all in let b = h.0 in cc); bytes = k.bytes }
