-- Bytes read as one instruction, by a definition: at most one is there, and none where its operands are cut off.
use Rattle.std.proofs.Common.{◌≡◌, ◌∙◌, ◌<◌, ◌^◌, ◌==◌, if◌then◌else◌, inl, inr, ℕ, suc, zero, List, [], ◌∷◌, ◌++◌, length}
use Rattle.std.proofs.Common.{append_assoc, refl, sym, ap, arith, Option, Some, None}
use Rattle.std.specs.Int.{w32, w64, to_le_bytes, from_le_bytes, cast_signed, cast_unsigned}
use Rattle.std.proofs.lemmas.Int.{to_z-of_z}
use Rattle.std.proofs.lemmas.Nat.{from_le_bytes-to_le_bytes_4, from_le_bytes-to_le_bytes_8}
use Rattle.std.proofs.Math.Facts.{Fits-of_z}
use Rattle.prettyless_model.specs.declared.choice.ColumnTest.TheVariants as by_column
use Rattle.prettyless_model.specs.declared.choice.NestingTest.TheVariants as by_nesting
use Rattle.prettyless_model.specs.declared.kind.Indenting.TheVariants as by
use Rattle.prettyless_model.specs.declared.kind.Single.TheVariants as one
use Rattle.prettyless_model.specs.declared.kind.Pair.TheVariants as two
use Rattle.prettyless_program.specs.declared.instruction.Leaf.TheVariants as leaf
use Rattle.prettyless_program.specs.declared.instruction.Words.TheVariants as words
use Rattle.prettyless_program.specs.Codes.{code_of}
use Rattle.prettyless_program.specs.Faults.{IsCutOff, IsTextCutOff}
use Rattle.prettyless_program.specs.Instructions.{Instruction, Put, Write, Count, Wrap, WrapNest, Both, BothOnColumn, BothOnNesting, Open, Close}
use Rattle.prettyless_program.specs.Programs.{Fits, number, operands, sized, then_made, written}

-- what is read, if anything is, and the bytes after it
abbrev Read : Type 0 → Type 0
Read A = Option (A × List ℕ)

-- what is made of that
abbrev made : {A B : Type 0} → (A → B) → Read A → Read B
made make None = None
made make (Some (x, rest)) = Some (make x, rest)

-- ---- numbers

-- a number of eight bytes
abbrev number_at : List ℕ → Read ℕ
number_at (a ∷ (b ∷ (c ∷ (d ∷ (e ∷ (f ∷ (g ∷ (h ∷ rest)))))))) =
    Some (from_le_bytes w64 (a ∷ b ∷ c ∷ d ∷ e ∷ f ∷ g ∷ h ∷ []), rest)
number_at bytes = None

number_there : (n : ℕ) (r : List ℕ) → n < 2 ^ 64 → number_at (number n ++ r) ≡ Some (n, r)
number_there n r f = ap (λ (m : ℕ). Some (m, r)) (from_le_bytes-to_le_bytes_8 n f)

number_short : (bytes : List ℕ) → length bytes < 8 → number_at bytes ≡ None
number_short (a ∷ (b ∷ (c ∷ (d ∷ (e ∷ (f ∷ (g ∷ (h ∷ rest)))))))) short = absurd (omega arith)
number_short bytes short = refl

-- a length of four
abbrev length_at : List ℕ → Read ℕ
length_at (a ∷ (b ∷ (c ∷ (d ∷ rest)))) = Some (from_le_bytes w32 (a ∷ b ∷ c ∷ d ∷ []), rest)
length_at bytes = None

length_there : (n : ℕ) (r : List ℕ) → n < 2 ^ 32 → length_at (to_le_bytes w32 n ++ r) ≡ Some (n, r)
length_there n r f = ap (λ (m : ℕ). Some (m, r)) (from_le_bytes-to_le_bytes_4 n f)

length_short : (bytes : List ℕ) → length bytes < 4 → length_at bytes ≡ None
length_short (a ∷ (b ∷ (c ∷ (d ∷ rest)))) short = absurd (omega arith)
length_short bytes short = refl

-- ---- texts

-- so many bytes
abbrev first : ℕ → List ℕ → Read (List ℕ)
first zero bytes = Some ([], bytes)
first (suc n) [] = None
first (suc n) (b ∷ bytes) = made (λ (s : List ℕ). b ∷ s) (first n bytes)

first_there : (s r : List ℕ) → first (length s) (s ++ r) ≡ Some (s, r)
first_there [] r = refl
first_there (b ∷ s) r = ap (made (λ (t : List ℕ). b ∷ t)) (first_there s r)

first_short : (n : ℕ) (bytes : List ℕ) → length bytes < n → first n bytes ≡ None
first_short zero bytes short = absurd (omega arith)
first_short (suc n) [] short = refl
first_short (suc n) (b ∷ bytes) short = ap (made (λ (t : List ℕ). b ∷ t)) (first_short n bytes (omega arith))

-- a text, after this length
abbrev text_after : Read ℕ → Read (List ℕ)
text_after n = then_made n (λ p. first p.0 p.1)

-- a text after its length
abbrev text_at : List ℕ → Read (List ℕ)
text_at bytes = text_after (length_at bytes)

text_there : (s r : List ℕ) → length s < 2 ^ 32 → text_at (sized s ++ r) ≡ Some (s, r)
text_there s r f = ap text_at (append_assoc (to_le_bytes w32 (length s)) s r) ∙ ap text_after (length_there (length s) (s ++ r) f)
    ∙ first_there s r

text_short : (bytes : List ℕ) → IsTextCutOff bytes → text_at bytes ≡ None
text_short bytes (inl short) = ap text_after (length_short bytes short)
text_short bytes (inr (n, rest, f, e, short)) = ap text_at e ∙ ap text_after (length_there n rest f) ∙ first_short n rest short

-- ---- instructions

-- a text that counts as many columns as this number says
abbrev counted_after : Read ℕ → Read Instruction
counted_after n = then_made n (λ p. made (Count p.0) (text_at p.1))

-- the instruction of a code, with the operands that come next
abbrev read : ℕ → List ℕ → Read Instruction
read c bytes =
    if c == 0 then Some (Put leaf.Nil, bytes) else if c == 1 then Some (Put leaf.Fail, bytes)
    else if c == 2 then Some (Put leaf.WeakSpace, bytes) else if c == 3 then Some (Put leaf.HardLine, bytes)
    else if c == 4 then Some (Put leaf.WeakLine, bytes) else if c == 5 then Some (Put leaf.ExpandParent, bytes)
    else if c == 6 then Some (Put leaf.Line, bytes) else if c == 7 then Some (Put leaf.LineOrNil, bytes)
    else if c == 16 then made (Write words.Measured) (text_at bytes) else if c == 17 then made (Write words.Ascii) (text_at bytes)
    else if c == 18 then counted_after (number_at bytes) else if c == 19 then made (Write words.Multiline) (text_at bytes)
    else if c == 32 then Some (Wrap one.Group, bytes) else if c == 33 then Some (Wrap one.Flatten, bytes)
    else if c == 34 then Some (Wrap (one.Indented by.Align), bytes) else if c == 35 then Some (Wrap (one.Indented by.DedentToRoot), bytes)
    else if c == 36 then Some (Wrap one.LineSuffix, bytes)
    else if c == 37 then made (λ (n : ℕ). WrapNest (cast_signed w64 n)) (number_at bytes)
    else if c == 48 then Some (Both two.Append, bytes) else if c == 49 then Some (Both two.BreakOrFlat, bytes)
    else if c == 50 then Some (Both two.Union, bytes) else if c == 51 then Some (Both two.PartialUnion, bytes)
    else if c == 52 then made (λ (n : ℕ). BothOnColumn (by_column.AtMost n)) (number_at bytes)
    else if c == 53 then made (λ (n : ℕ). BothOnColumn (by_column.AtLeast n)) (number_at bytes)
    else if c == 54 then Some (BothOnColumn by_column.IsNesting, bytes)
    else if c == 55 then made (λ (n : ℕ). BothOnNesting (by_nesting.AtMost n)) (number_at bytes)
    else if c == 56 then made (λ (n : ℕ). BothOnNesting (by_nesting.AtLeast n)) (number_at bytes)
    else if c == 64 then Some (Open, bytes) else if c == 65 then Some (Close, bytes) else None

-- an instruction is read where it is written
read_there : (i : Instruction) (r : List ℕ) → Fits i → read (code_of i) (operands i ++ r) ≡ Some (i, r)
read_there (Write words.Measured s) r f = rw (text_there s r f) refl
read_there (Write words.Ascii s) r f = rw (text_there s r f) refl
read_there (Write words.Multiline s) r f = rw (text_there s r f) refl
read_there (Count n s) r f =
    ap (λ (bytes : List ℕ). counted_after (number_at bytes)) (append_assoc (number n) (sized s) r)
    ∙ ap counted_after (number_there n (sized s ++ r) f.0) ∙ ap (made (Count n)) (text_there s r f.1)
read_there (WrapNest k) r f = rw (from_le_bytes-to_le_bytes_8 (cast_unsigned w64 k) (Fits-of_z f).fits, to_z-of_z w64 k f) refl
read_there (BothOnColumn (by_column.AtMost n)) r f = rw (from_le_bytes-to_le_bytes_8 n f) refl
read_there (BothOnColumn (by_column.AtLeast n)) r f = rw (from_le_bytes-to_le_bytes_8 n f) refl
read_there (BothOnNesting (by_nesting.AtMost n)) r f = rw (from_le_bytes-to_le_bytes_8 n f) refl
read_there (BothOnNesting (by_nesting.AtLeast n)) r f = rw (from_le_bytes-to_le_bytes_8 n f) refl
read_there (Put leaf.Nil) r f = refl
read_there i r f = refl

-- none is read where its operands are cut off
read_short : (i : Instruction) (bytes : List ℕ) → IsCutOff i bytes → read (code_of i) bytes ≡ None
read_short (Write words.Measured s) bytes cut = rw (text_short bytes cut) refl
read_short (Write words.Ascii s) bytes cut = rw (text_short bytes cut) refl
read_short (Write words.Multiline s) bytes cut = rw (text_short bytes cut) refl
read_short (Count n s) bytes (inl cut) = rw (number_short bytes cut) refl
read_short (Count n s) bytes (inr (m, rest, f, e, cut)) =
    ap (λ (b : List ℕ). counted_after (number_at b)) e ∙ ap counted_after (number_there m rest f)
    ∙ ap (made (Count m)) (text_short rest cut)
read_short (WrapNest k) bytes cut = rw (number_short bytes cut) refl
read_short (BothOnColumn (by_column.AtMost n)) bytes cut = rw (number_short bytes cut) refl
read_short (BothOnColumn (by_column.AtLeast n)) bytes cut = rw (number_short bytes cut) refl
read_short (BothOnNesting (by_nesting.AtMost n)) bytes cut = rw (number_short bytes cut) refl
read_short (BothOnNesting (by_nesting.AtLeast n)) bytes cut = rw (number_short bytes cut) refl
read_short i bytes cut = absurd (omega arith)

-- the instruction that bytes begin with
abbrev read_first : List ℕ → Read Instruction
read_first [] = None
read_first (c ∷ bytes) = read c bytes

some_same : {A : Type 0} (x y : A) → Some x ≡ Some y → x ≡ y
some_same x y e = cc

none_some : {A : Type 0} (x : A) → None ≡ Some x → ⊥
none_some x e = absurd cc

-- bytes begin with at most one instruction
pub instruction_same : (i j : Instruction) (r s : List ℕ) → Fits i → Fits j → written i ++ r ≡ written j ++ s → (i ≡ j) × (r ≡ s)
instruction_same i j r s fi fj e =
    let h : (i, r) ≡ (j, s) = some_same (i, r) (j, s) (sym (read_there i r fi) ∙ ap read_first e ∙ read_there j s fj) in
    (ap (λ p. p.0) h, ap (λ p. p.1) h)

-- and with none whose operands are cut off
pub not_short : (i j : Instruction) (r bytes : List ℕ) → Fits i → IsCutOff j bytes → written i ++ r ≡ code_of j ∷ bytes → ⊥
not_short i j r bytes fi cut e = none_some (i, r) (sym (read_short j bytes cut) ∙ sym (ap read_first e) ∙ read_there i r fi)
