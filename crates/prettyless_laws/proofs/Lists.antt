-- Lists of which it is known that they are broken: their members are laid one after another.
use Rattle.std.proofs.Common.{◌≡◌, ℕ, suc, ◌+◌, arith, List, [], ◌∷◌, ◌++◌, append_assoc, length, refl, ap, sym, ◌∙◌, ◌&&◌, nat_le}
use Rattle.prettyless_model.specs.Options.{options_at}
use Rattle.prettyless_model.specs.Spaces.{spaces}
use Rattle.prettyless_model.specs.declared.options.RenderOptions.{RenderOptions}
use Rattle.prettyless_model.specs.Tree.{Tree, HardLine, Group, size}
use Rattle.prettyless_model.specs.Column.{commit, gap, indented}
use Rattle.prettyless_model.specs.Layout.{State, Outcome, Done, Entry, after_bytes, and_then, breaks, entry, initial, lay, lay_text}
use Rattle.prettyless_model.specs.declared.mode.Mode.TheVariants.{Break}
use Rattle.prettyless_model.specs.Rows.{row_line}
use Rattle.prettyless_laws.specs.Parts.{IsInline, FollowAlike}
use Rattle.prettyless_laws.specs.Rows.{WideListsAreLaidByTheirMembers, WideTextsAreOnLines, lined, lines_between, lay_lines, on_lines}
use Rattle.prettyless_laws.proofs.Following.{breaks_alike, lay_alike, then-same}
use Rattle.prettyless_laws.proofs.Inline.{wide_is_broken}
use Rattle.prettyless_laws.proofs.LineEnds.{hard_takes_indent, hard_ends_line, layout_ends}

-- a line in Break hides what a hard line does
line_alike : (i : ℕ) (a : List Entry) → FollowAlike (entry i row_line ∷ a) (entry i HardLine ∷ [])
line_alike i a = (λ j. refl, λ w c p. refl)

lines_are_members : (o : RenderOptions) (n : ℕ) (d : Tree) (others : List Tree) (i : ℕ) (rest : List Entry) (st : State)
    → lay o (breaks o n) (lines_between d others) i Break rest st ≡ lay_lines o (breaks o n) d others i rest st
unfolding lay
lines_are_members o n d [] i rest st = refl
lines_are_members o n d (next ∷ others) i rest st =
    let later = lines_between next others in
    let brk = breaks o n in
    then-same _ _ _ _
    (then-same _ _ _ _
    (lay_alike o brk (breaks_alike o n) d i Break (entry i row_line ∷ entry i later ∷ rest) (entry i HardLine ∷ []) st
    (line_alike i (entry i later ∷ rest)))
    (λ u. hard_takes_indent o n i Break (entry i later ∷ rest) (entry i next ∷ []) u refl))
    (λ v. lines_are_members o n next others i rest v)

pub wide_list_by_members : WideListsAreLaidByTheirMembers
wide_list_by_members o n d others i rest st h e =
    wide_is_broken o (breaks o n) (lines_between d others) i rest st h e ∙ lines_are_members o n d others i rest st

-- ---- texts

-- an outcome of these bytes, with nothing pending after them
record Writes (x : Outcome) (bytes : List ℕ) : Type 0 where
  after : State
  done : x ≡ Done bytes after
  pending : after.pending ≡ []

text_writes : (o : RenderOptions) (w : ℕ) (s : List ℕ) (st : State) → gap st.column ≡ 0 → st.pending ≡ [] → Writes (lay_text o w s st) s
text_writes o w [] st g p = record { after = st; done = refl; pending = p }
text_writes o w (b ∷ bs) st g p =
    let c = commit w st.column in
    let u : State = record st { column = c; within = st.within && nat_le c.position o.width } in
    record { after = u; done = ap (λ (n : ℕ). Done (spaces n ++ (b ∷ bs)) u) g; pending = p }

lines_write : (width n : ℕ) (s : List ℕ) (others : List (List ℕ)) (rest : List Entry) (st : State) → gap st.column ≡ 0 → st.pending ≡ []
    → Writes (lay (options_at width) (breaks (options_at width) (suc n)) (lined s others) 0 Break rest st) (on_lines s others)
unfolding lay
lines_write width n s [] rest st g p = text_writes (options_at width) (length s) s st g p
lines_write width n s (next ∷ others) rest st g p =
    let o = options_at width in
    let brk = breaks o (suc n) in
    let later = lined next others in
    let text = text_writes o (length s) s st g p in
    let u = text.after in
    let ended : State = record u { column = indented 0 } in
    let lines = lines_write width n next others rest ended refl text.pending in
    record {
      after = lines.after;
      done =
          ap (λ (x : Outcome). and_then (and_then x (λ v. brk HardLine 0 Break (entry 0 later ∷ rest) v))
          (λ v. lay o brk later 0 Break rest v)) text.done
          ∙ ap (λ (x : Outcome). and_then (after_bytes s x) (λ v. lay o brk later 0 Break rest v))
          (hard_ends_line o n 0 Break (entry 0 later ∷ rest) u text.pending)
          ∙ ap (after_bytes (s ++ 10 ∷ [])) lines.done
          ∙ ap (λ (x : List ℕ). Done x lines.after) (append_assoc s (10 ∷ []) (on_lines next others));
      pending = lines.pending;
    }

lined_inline : (s : List ℕ) (others : List (List ℕ)) → IsInline (lined s others)
lined_inline s [] = tt
lined_inline s (next ∷ others) = ((tt, tt), lined_inline next others)

one-more : (n : ℕ) → suc n ≡ n + 1
one-more n = omega arith

pub wide_texts_on_lines : WideTextsAreOnLines
wide_texts_on_lines width s others h =
    let o = options_at width in
    let d = lined s others in
    let n = size (Group d) in
    let lines = lines_write width n s others [] initial refl refl in
    layout_ends o (Group d) (on_lines s others) lines.after
    (ap (λ (k : ℕ). lay o (breaks o k) (Group d) 0 Break [] initial) (sym (one-more n))
    ∙ wide_is_broken o (breaks o (suc n)) d 0 [] initial (lined_inline s others) h
    ∙ lines.done)
    lines.pending
