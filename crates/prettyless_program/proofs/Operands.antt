-- What stops where the operands of an instruction are cut off, or its text is not UTF-8, by its code.
use Rattle.std.proofs.Common.{◌≡◌, ◌∙◌, ◌<◌, ◌^◌, inl, inr, ℕ, pos, List, [], ◌∷◌, ◌++◌, length, append_assoc, refl, sym, ap}
use Rattle.prettyless_model.specs.declared.choice.ColumnTest.TheVariants as by_column
use Rattle.prettyless_model.specs.declared.choice.NestingTest.TheVariants as by_nesting
use Rattle.prettyless_program.specs.Codes.{code_of}
use Rattle.prettyless_program.specs.Faults.{IsTextFault, Stops}
use Rattle.prettyless_program.specs.Instructions.{Write, Count, WrapNest, BothOnColumn, BothOnNesting}
use Rattle.prettyless_program.specs.Programs.{CodeItem, number, sized}
use Rattle.prettyless_program.specs.declared.fault.ProgramFault.{ProgramFault}
use Rattle.prettyless_program.specs.declared.fault.ProgramFault.TheVariants.{Operand, Text}
use Rattle.prettyless_program.specs.declared.instruction.Words.{Words}
use Rattle.prettyless_program.specs.declared.instruction.Words.TheVariants as words

-- where no text comes after this code
abbrev pub StopsAtText : ℕ → Type 0
StopsAtText code = (fault : ProgramFault) (bytes : List ℕ) (items : List CodeItem) → IsTextFault fault bytes
    → Stops fault (code ∷ bytes) items

text_stops : (w : Words) (code : ℕ) → ((s : List ℕ) → code ≡ code_of (Write w s)) → StopsAtText code
text_stops w code same Operand bytes items cut = (Write w [], bytes, ap (λ (c : ℕ). c ∷ bytes) (same []), cut)
text_stops w code same Text bytes items (s, rest, e, f, other) = (
  Write w s,
  rest,
  ap (λ (c : ℕ). c ∷ bytes) (same s) ∙ ap (λ (r : List ℕ). code_of (Write w s) ∷ r) e,
  f,
  other,
)
text_stops w code same fault bytes items f = absurd f

pub texts_stop : StopsAtText 16 × StopsAtText 17 × StopsAtText 19
texts_stop = (
  text_stops words.Measured 16 (λ s. refl),
  text_stops words.Ascii 17 (λ s. refl),
  text_stops words.Multiline 19 (λ s. refl),
)

pub counted_stops : (n : ℕ) (fault : ProgramFault) (bytes rest : List ℕ) (items : List CodeItem) → n < 2 ^ 64 → bytes ≡ number n ++ rest
    → IsTextFault fault rest → Stops fault (18 ∷ bytes) items
counted_stops n Operand bytes rest items f e cut = (Count n [], bytes, refl, inr (n, rest, f, e, cut))
counted_stops n Text bytes rest items f e (s, later, h, fits, other) = (
  Count n s,
  later,
  ap (λ (r : List ℕ). 18 ∷ r)
      (e ∙ ap (λ (r : List ℕ). number n ++ r) h ∙ sym (append_assoc (number n) (sized s) later)),
  (f, fits),
  other,
)
counted_stops n fault bytes rest items f e t = absurd t

-- where the number after this code is cut off
abbrev pub StopsInNumber : ℕ → Type 0
StopsInNumber code = (bytes : List ℕ) (items : List CodeItem) → length bytes < 8 → Stops Operand (code ∷ bytes) items

pub numbers_stop : StopsInNumber 18 × StopsInNumber 37 × StopsInNumber 52 × StopsInNumber 53 × StopsInNumber 55 × StopsInNumber 56
numbers_stop = (
  λ bytes items short. (Count 0 [], bytes, refl, inl short),
  λ bytes items short. (WrapNest (pos 0), bytes, refl, short),
  λ bytes items short. (BothOnColumn (by_column.AtMost 0), bytes, refl, short),
  λ bytes items short. (BothOnColumn (by_column.AtLeast 0), bytes, refl, short),
  λ bytes items short. (BothOnNesting (by_nesting.AtMost 0), bytes, refl, short),
  λ bytes items short. (BothOnNesting (by_nesting.AtLeast 0), bytes, refl, short),
)

pub ruleset stopping = (texts_stop, counted_stops, numbers_stop)
