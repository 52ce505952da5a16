-- What the number of a status says.
use Rattle.std.proofs.lemmas.List.{length-take}
use Rattle.std.proofs.Common.{◌≡◌, refl, ◌≤◌, ◌<◌, ◌⊎◌, inl, inr, ℕ, List, [], ◌∷◌, ◌++◌, length, take, ◌∙◌, subst, arith}
use Rattle.prettyless_exports.specs.Overlay.{overlay, Holds, IsUntouched, KeepsLimit}
use Rattle.prettyless_exports.proofs.Limits.{keeps_limit}
use Rattle.prettyless_model.specs.Layout.{bytes_in, layout}
use Rattle.prettyless_model.specs.Tree.{Tree}
use Rattle.prettyless_model.specs.declared.options.RenderOptions.{RenderOptions}
use Rattle.prettyless_program.specs.declared.fault.ProgramFault.{ProgramFault}
use Rattle.prettyless_program.specs.declared.fault.ProgramFault.TheVariants as fault
use Rattle.prettyless_program.proofs.OneDocument.{at_most_one}
use Rattle.prettyless_program.specs.Faults.{WritesNone}
use Rattle.prettyless_exports.specs.ProgramAnswers.{Answers, BeginsLayout, IsCutShort, IsLaidOut, IsPast, IsProgramRefused}
use Rattle.prettyless_exports.specs.Numbers.{number_of}
use Rattle.prettyless_exports.specs.ProgramStatuses.{StatusHolds}
use Rattle.prettyless_exports.specs.declared.status.Status.{Status}
use Rattle.prettyless_exports.specs.declared.status.Status.TheVariants as status
use Rattle.prettyless_exports.specs.declared.text.Put.TheVariants as put

-- no bytes change no area
no_bytes : (old : List ℕ) → old ≡ overlay [] old
no_bytes [] = refl
no_bytes (x ∷ xs) = refl

module _ (o : RenderOptions) (limit : ℕ) (program old new : List ℕ) (written : ℕ) where
  laid_out : (s : Status) → StatusHolds o limit program old new written s → number_of s ≡ 0
      → (bytes : List ℕ) × IsLaidOut o limit program bytes × (length bytes ≤ length old) × Holds bytes old new written
  laid_out (status.LaidOut put.Whole) (d, w, (bytes, whole, content, (within, fits, held))) e =
      (bytes, record { document = d; writes = w; layout = whole; content = content; within = within }, fits, held)
  laid_out (status.Refused fault.Memory) h e = absurd (omega arith)
  laid_out s h e = absurd (omega arith)

  too_small : (s : Status) → StatusHolds o limit program old new written s → number_of s ≡ 1
      → (bytes : List ℕ) × IsLaidOut o limit program bytes × (length old < length bytes) × (new ≡ overlay bytes old)
      × (written ≡ length bytes)
  too_small (status.LaidOut put.Beginning) (d, w, (bytes, whole, content, (within, short, held, count))) e =
      (bytes, record { document = d; writes = w; layout = whole; content = content; within = within }, short, held, count)
  too_small (status.Refused fault.Memory) h e = absurd (omega arith)
  too_small s h e = absurd (omega arith)

  -- an area that is as it was holds the beginning of anything
  nothing_held : IsUntouched old new written → Holds [] old new written
  nothing_held u = record { in_place = u.0 ∙ no_bytes old; count = omega (arith, u.1) }

  memory : (s : Status) → StatusHolds o limit program old new written s → number_of s ≡ 2 → (front : List ℕ) × BeginsLayout o program front
      × Holds front old new written
  memory status.Memory (d, w, (front, (back, whole), within, held)) e =
      (front, (λ d' w'. (back, subst (λ (x : Tree). bytes_in (layout o x) ≡ front ++ back) (at_most_one program d d' w w') whole)), held)
  memory (status.Refused fault.Memory) h e = ([], (λ d w. (bytes_in (layout o d), refl)), nothing_held h.1)
  memory (status.LaidOut put.Whole) h e = absurd (omega arith)
  memory s h e = absurd (omega arith)

  fails : (s : Status) → StatusHolds o limit program old new written s → number_of s ≡ 3
      → (bytes : List ℕ) × IsCutShort o limit program bytes × Holds bytes old new written
  fails status.Fails (d, w, (bytes, cut, within, held)) e =
      (bytes, record { document = d; writes = w; layout = cut; within = within }, held)
  fails (status.Refused fault.Memory) h e = absurd (omega arith)
  fails (status.LaidOut put.Whole) h e = absurd (omega arith)
  fails s h e = absurd (omega arith)

  past_limit : (s : Status) → StatusHolds o limit program old new written s → number_of s ≡ 4
      → (bytes : List ℕ) × IsPast o limit program bytes × Holds (take limit bytes) old new written
  past_limit (status.LaidOut put.PastLimit) (d, w, (past, held)) e =
      (bytes_in (layout o d), record { document = d; writes = w; layout = refl; past = past }, held)
  past_limit (status.Refused fault.Memory) h e = absurd (omega arith)
  past_limit s h e = absurd (omega arith)

  refused : (f : ProgramFault) → ¬ (f ≡ fault.Memory) → StatusHolds o limit program old new written (status.Refused f)
      → IsProgramRefused f program old new written
  refused f other h = let r = h.0 other in record { has_fault = r.0; no_document = r.1; untouched = h.1 }

  instruction : (s : Status) → StatusHolds o limit program old new written s → number_of s ≡ 16
      → IsProgramRefused fault.Instruction program old new written
  instruction (status.Refused fault.Instruction) h e = refused fault.Instruction (λ x. absurd cc) h
  instruction (status.LaidOut put.Whole) h e = absurd (omega arith)
  instruction s h e = absurd (omega arith)

  operand : (s : Status) → StatusHolds o limit program old new written s → number_of s ≡ 17 →
      IsProgramRefused fault.Operand program old new written
  operand (status.Refused fault.Operand) h e = refused fault.Operand (λ x. absurd cc) h
  operand (status.LaidOut put.Whole) h e = absurd (omega arith)
  operand s h e = absurd (omega arith)

  text : (s : Status) → StatusHolds o limit program old new written s → number_of s ≡ 18
      → IsProgramRefused fault.Text program old new written
  text (status.Refused fault.Text) h e = refused fault.Text (λ x. absurd cc) h
  text (status.LaidOut put.Whole) h e = absurd (omega arith)
  text s h e = absurd (omega arith)

  document : (s : Status) → StatusHolds o limit program old new written s → number_of s ≡ 19 →
      IsProgramRefused fault.Document program old new written
  document (status.Refused fault.Document) h e = refused fault.Document (λ x. absurd cc) h
  document (status.LaidOut put.Whole) h e = absurd (omega arith)
  document s h e = absurd (omega arith)

  unopened : (s : Status) → StatusHolds o limit program old new written s → number_of s ≡ 20 →
      IsProgramRefused fault.Unopened program old new written
  unopened (status.Refused fault.Unopened) h e = refused fault.Unopened (λ x. absurd cc) h
  unopened (status.LaidOut put.Whole) h e = absurd (omega arith)
  unopened s h e = absurd (omega arith)

  unclosed : (s : Status) → StatusHolds o limit program old new written s → number_of s ≡ 21 →
      IsProgramRefused fault.Unclosed program old new written
  unclosed (status.Refused fault.Unclosed) h e = refused fault.Unclosed (λ x. absurd cc) h
  unclosed (status.LaidOut put.Whole) h e = absurd (omega arith)
  unclosed s h e = absurd (omega arith)

  -- these bytes are in the area, and within the limit
  held_within : (bytes : List ℕ) → length bytes ≤ limit → Holds bytes old new written → KeepsLimit limit old new written
  held_within bytes within held = keeps_limit limit bytes old new written held.in_place within (omega (arith, held.count))

  limited : (s : Status) → StatusHolds o limit program old new written s → KeepsLimit limit old new written
  limited (status.LaidOut put.Whole) (d, w, (bytes, whole, content, (within, fits, held))) = held_within bytes within held
  limited (status.LaidOut put.Beginning) (d, w, (bytes, whole, content, (within, short, held, count))) =
      keeps_limit limit bytes old new written held within (omega arith)
  limited status.Memory (d, w, (front, back, within, held)) = held_within front within held
  limited status.Fails (d, w, (bytes, cut, within, held)) = held_within bytes within held
  limited (status.LaidOut put.PastLimit) (d, w, (past, held)) =
      held_within (take limit (bytes_in (layout o d))) (omega (arith, length-take limit (bytes_in (layout o d)))) held
  limited status.NotJson h = absurd h.2
  limited status.NotToml h = absurd h.2
  limited (status.Refused f) h = held_within [] (omega arith) (nothing_held h.1)

  no_document : (s : Status) → StatusHolds o limit program old new written s → WritesNone program → IsUntouched old new written
  no_document (status.Refused f) h none = h.1
  no_document (status.LaidOut p) h none = absurd (none h.0 h.1)
  no_document s h none = absurd (none h.0 h.1)

  known : (s : Status) → StatusHolds o limit program old new written s → (number_of s ≤ 4) ⊎ ((16 ≤ number_of s) × (number_of s ≤ 21))
  known (status.LaidOut put.Whole) h = inl (omega arith)
  known (status.LaidOut put.Beginning) h = inl (omega arith)
  known (status.LaidOut put.PastLimit) h = inl (omega arith)
  known status.Memory h = inl (omega arith)
  known status.Fails h = inl (omega arith)
  known (status.Refused fault.Memory) h = inl (omega arith)
  known (status.Refused f) h = inr (omega arith, omega arith)
  known s h = absurd h.2

  pub answers : (s : Status) → StatusHolds o limit program old new written s → Answers o limit program old new written (number_of s)
  answers s h = record {
    laid_out = laid_out s h;
    too_small = too_small s h;
    memory = memory s h;
    fails = fails s h;
    past_limit = past_limit s h;
    instruction = instruction s h;
    operand = operand s h;
    text = text s h;
    document = document s h;
    unopened = unopened s h;
    unclosed = unclosed s h;
    limited = limited s h;
    no_document = no_document s h;
    known = known s h;
  }
