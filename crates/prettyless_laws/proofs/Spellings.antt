-- Layouts are spellings of their documents, written out.
use Rattle.std.proofs.Common.{◌≡◌, refl, sym, ◌∙◌, ap, subst, ℕ, Bool, true, false}
use Rattle.std.proofs.Common.{List, [], ◌∷◌, ◌++◌, append-nil, append_assoc, inl, inr}
use Rattle.prettyless_model.specs.Options.{ending}
use Rattle.prettyless_model.specs.Spaces.{spaces}
use Rattle.prettyless_model.specs.Column.{gap, saturating_add}
use Rattle.prettyless_model.specs.Indent.{indent_by}
use Rattle.prettyless_model.specs.Tree.{Tree, Nil, Text, TextWithLen, HardLine, Append, Indented, ExpandParent, BreakOrFlat, Group}
use Rattle.prettyless_model.specs.Layout.{State, Outcome, Done, Failed, Entry, Whole, after_bytes, and_then, break_with, breaks}
use Rattle.prettyless_model.specs.Layout.{bytes_of, end_with, entry, initial, lay, lay_ending, lay_text, layout, next_indent}
use Rattle.prettyless_model.specs.Levels.{queued, settle, settle_end}
use Rattle.prettyless_model.specs.declared.mode.Mode.{Mode}
use Rattle.prettyless_model.specs.declared.mode.Mode.TheVariants.{Break, Flat}
use Rattle.prettyless_model.specs.declared.options.IndentationPolicy.{IndentationPolicy}
use Rattle.prettyless_model.specs.declared.options.IndentationPolicy.TheVariants.{Deferred}
use Rattle.prettyless_model.specs.declared.options.RenderOptions.{RenderOptions}
use Rattle.prettyless_model.proofs.Levels.{end_fixed, layout_is}
use Rattle.prettyless_laws.proofs.Again.{first_mode, group_mode, group_modes, later_modes, layout_modes, modes_after, spelled_in}
use Rattle.prettyless_laws.proofs.Again.{LayoutsAreWrittenByModes}
use Rattle.prettyless_laws.proofs.LaidLike.{first_modes, second_modes}
use Rattle.prettyless_laws.specs.Bits.{AreWritten, Bit, IsExact, IsSpelled, end_of_line, text_of, word_bits}

-- ---- what is written

-- a line has just begun after these
abbrev begun_after : Bool → List Bit → Bool
begun_after fresh [] = fresh
begun_after fresh (text_of s ∷ bits) = begun_after false bits
begun_after fresh (end_of_line ∷ bits) = begun_after true bits

written_both : (o : RenderOptions) (fresh : Bool) (xs ys : List Bit) (b c : List ℕ) → AreWritten o fresh xs b
    → AreWritten o (begun_after fresh xs) ys c → AreWritten o fresh (xs ++ ys) (b ++ c)
written_both o fresh [] ys b c h k = subst (λ (l : List ℕ). AreWritten o fresh ys (l ++ c)) (sym h) k
written_both o fresh (end_of_line ∷ xs) ys b c (rest, e, h) k =
    (rest ++ c, ap (λ (l : List ℕ). l ++ c) e ∙ append_assoc (ending o.line_ending) rest c, written_both o true xs ys rest c h k)
written_both o true (text_of s ∷ xs) ys b c (n, rest, e, h) k = (
  n,
  rest ++ c,
  ap (λ (l : List ℕ). l ++ c) e ∙ append_assoc (spaces n) (s ++ rest) c ∙ ap (λ (l : List ℕ). spaces n ++ l) (append_assoc s rest c),
  written_both o false xs ys rest c h k,
)
written_both o false (text_of s ∷ xs) ys b c (rest, e, h) k =
    (rest ++ c, ap (λ (l : List ℕ). l ++ c) e ∙ append_assoc s rest c, written_both o false xs ys rest c h k)

begun_both : (fresh : Bool) (xs ys : List Bit) → begun_after fresh (xs ++ ys) ≡ begun_after (begun_after fresh xs) ys
begun_both fresh [] ys = refl
begun_both fresh (text_of s ∷ xs) ys = begun_both false xs ys
begun_both fresh (end_of_line ∷ xs) ys = begun_both true xs ys

-- ---- states

-- nothing is pending, and nothing is written before what goes on with a line
pub record IsClear (st : State) : Type 0 where
  pub pending : st.pending ≡ []
  pub gap : st.column.fresh ≡ false → gap st.column ≡ 0

-- bits were laid to these bytes from a column on
pub record IsLaidTo (o : RenderOptions) (bits : List Bit) (fresh : Bool) (b : List ℕ) (u : State) : Type 0 where
  pub written : AreWritten o fresh bits b
  pub fresh_is : u.column.fresh ≡ begun_after fresh bits
  pub clear : IsClear u

none_sum : saturating_add 0 0 ≡ 0
none_sum = refl

-- ---- outcomes

done_bytes : {b c : List ℕ} {s t : State} → Done b s ≡ Done c t → b ≡ c
done_bytes e = cc

done_state : {b c : List ℕ} {s t : State} → Done b s ≡ Done c t → s ≡ t
done_state e = cc

split_after : (b : List ℕ) (x : Outcome) (c : List ℕ) (u : State) → after_bytes b x ≡ Done c u
    → (e : List ℕ) × (x ≡ Done e u) × (b ++ e ≡ c)
split_after b (Done e s) c u h = (e, ap (Done e) (done_state h), done_bytes h)
split_after b (Failed e) c u h = absurd (cc)

split_then : (x : Outcome) (f : State → Outcome) (c : List ℕ) (u : State) → and_then x f ≡ Done c u
    → (v : State) × (b : List ℕ) × (e : List ℕ) × (x ≡ Done b v) × (f v ≡ Done e u) × (b ++ e ≡ c)
split_then (Done b v) f c u h = let rest = split_after b (f v) c u h in (v, b, rest.0, refl, rest.1, rest.2)
split_then (Failed b) f c u h = absurd (cc)

-- ---- one node

module _ (o : RenderOptions) where
  -- nothing is laid
  nothing : (st u : State) (b : List ℕ) → IsClear st → Done [] st ≡ Done b u → IsLaidTo o [] st.column.fresh b u
  nothing st u b clear h = record {
    written = sym (done_bytes h);
    fresh_is = ap (λ (s : State). s.column.fresh) (sym (done_state h));
    clear = subst IsClear (done_state h) clear;
  }

  word_written : (fresh : Bool) (n : ℕ) (s : List ℕ) → (fresh ≡ false → n ≡ 0) → AreWritten o fresh (text_of s ∷ []) (spaces n ++ s)
  word_written true n s none = (n, [], ap (λ (l : List ℕ). spaces n ++ l) (sym (append-nil s)), refl)
  word_written false n s none = ([], ap (λ (k : ℕ). spaces k ++ s) (none refl) ∙ sym (append-nil s), refl)

  text : (w : ℕ) (s : List ℕ) (st u : State) (b : List ℕ) → IsClear st → lay_text o w s st ≡ Done b u
      → IsLaidTo o (word_bits s) st.column.fresh b u
  text w [] st u b clear h = nothing st u b clear h
  text w (x ∷ s) st u b clear h = record {
    written = subst (AreWritten o st.column.fresh (text_of (x ∷ s) ∷ [])) (done_bytes h)
        (word_written st.column.fresh (gap st.column) (x ∷ s) clear.gap);
    fresh_is = ap (λ (t : State). t.column.fresh) (sym (done_state h));
    clear = subst IsClear (done_state h) (record { pending = clear.pending; gap = λ e. none_sum });
  }

  line : (k : ℕ) (st u : State) (b : List ℕ) → IsClear st → lay_ending o Deferred k st ≡ Done b u
      → IsLaidTo o (end_of_line ∷ []) st.column.fresh b u
  line k st u b clear h = record {
    written = ([], sym (done_bytes h) ∙ sym (append-nil (ending o.line_ending)), refl);
    fresh_is = ap (λ (t : State). t.column.fresh) (sym (done_state h));
    clear = subst IsClear (done_state h) (record { pending = clear.pending; gap = λ e. absurd (cc) });
  }

  both : (xs ys : List Bit) (fresh : Bool) (b c : List ℕ) (v u : State) → IsLaidTo o xs fresh b v → IsLaidTo o ys v.column.fresh c u
      → IsLaidTo o (xs ++ ys) fresh (b ++ c) u
  both xs ys fresh b c v u x y = record {
    written = written_both o fresh xs ys b c x.written (subst (λ (f : Bool). AreWritten o f ys c) x.fresh_is y.written);
    fresh_is = y.fresh_is ∙ ap (λ (f : Bool). begun_after f ys) x.fresh_is ∙ sym (begun_both fresh xs ys);
    clear = y.clear;
  }

  -- ---- documents

  module _ (later : o.indentation_policy ≡ Deferred) where
    plain_line : (m : Mode) (i : ℕ) (rest : List Entry) (st u : State) (b : List ℕ) → IsClear st
        → settle o HardLine i m rest st ≡ Done b u → IsLaidTo o (end_of_line ∷ []) st.column.fresh b u
    unfolding settle breaks
    plain_line m i rest st u b clear h =
        let q = queued st.pending in
        let is : break_with o (breaks o q) st.pending HardLine i m rest st ≡ lay_ending o Deferred (next_indent i rest) st =
        ap (λ (ps : List Tree). break_with o (breaks o q) ps HardLine i m rest st) clear.pending
        ∙ ap (λ (p : IndentationPolicy). lay_ending o p (next_indent i rest) st) later in
        line (next_indent i rest) st u b clear (sym is ∙ h)

    -- a document whose groups were laid in these modes
    laid : (d : Tree) → IsExact d → (i : ℕ) (m : Mode) (rest : List Entry) (st u : State) (b : List ℕ) (more ms : List Mode) → IsClear st
        → group_modes o d i m rest st more ≡ ms → lay o (settle o) d i m rest st ≡ Done b u
        → IsLaidTo o (spelled_in d m ms) st.column.fresh b u
    unfolding lay
    laid Nil exact i m rest st u b more ms clear e h = nothing st u b clear h
    laid (Text s) exact i m rest st u b more ms clear e h = text _ s st u b clear h
    laid (TextWithLen w s) exact i m rest st u b more ms clear e h = text w s st u b clear h
    laid HardLine exact i Break rest st u b more ms clear e h = plain_line Break i rest st u b clear h
    laid HardLine exact i Flat rest st u b more ms clear e h = absurd (cc)
    laid (Append l r) exact i m rest st u b more ms clear e h =
        let parts = split_then (lay o (settle o) l i m (entry i r ∷ rest) st) (λ v. lay o (settle o) r i m rest v) b u h in
        let before = first_modes o l r i m rest st more ms e in
        let first = laid l exact.0 i m (entry i r ∷ rest) st parts.0 parts.1 before.0 ms clear before.1 parts.3 in
        let modes = second_modes o l r i m rest st more ms parts.1 parts.0 e parts.3 in
        let second = laid r exact.1 i m rest parts.0 u parts.2 more (modes_after l m ms) first.clear modes parts.4 in
        subst (λ (c : List ℕ). IsLaidTo o (spelled_in (Append l r) m ms) st.column.fresh c u) parts.5
        (both (spelled_in l m ms) (spelled_in r m (modes_after l m ms)) st.column.fresh parts.1 parts.2 parts.0 u first second)
    laid (Indented how d) exact i m rest st u b more ms clear e h = laid d exact (indent_by how i st.column) m rest st u b more ms clear e h
    laid ExpandParent exact i m rest st u b more ms clear e h = nothing st u b clear h
    laid (BreakOrFlat x y) exact i Break rest st u b more ms clear e h = laid x exact.0 i Break rest st u b more ms clear e h
    laid (BreakOrFlat x y) exact i Flat rest st u b more ms clear e h = laid y exact.1 i Flat rest st u b more ms clear e h
    laid (Group d) exact i Break rest st u b more ms clear e h =
        subst (λ (n : Mode). IsLaidTo o (spelled_in d n (later_modes ms)) st.column.fresh b u) (ap first_mode e)
        (laid d exact i (group_mode o d i rest st) rest st u b more (later_modes ms) clear (ap later_modes e) h)
    laid (Group d) exact i Flat rest st u b more ms clear e h = laid d exact i Flat rest st u b more ms clear e h
    laid d exact i m rest st u b more ms clear e h = absurd exact

-- ---- spellings

spelled_group : (d : Tree) (n : Mode) (bits : List Bit) → IsSpelled d n bits → IsSpelled (Group d) Break bits
spelled_group d Break bits h = inl h
spelled_group d Flat bits h = inr h

-- a document may be spelled as it is where its groups are laid in any modes
pub spelled_so : (d : Tree) (m : Mode) (ms : List Mode) → IsSpelled d m (spelled_in d m ms)
spelled_so Nil m ms = refl
spelled_so (Text s) m ms = refl
spelled_so (TextWithLen w s) m ms = refl
spelled_so HardLine m ms = refl
spelled_so (Append l r) m ms =
    (spelled_in l m ms, spelled_in r m (modes_after l m ms), spelled_so l m ms, spelled_so r m (modes_after l m ms), refl)
spelled_so (Indented how d) m ms = spelled_so d m ms
spelled_so ExpandParent m ms = refl
spelled_so (BreakOrFlat b f) Break ms = spelled_so b Break ms
spelled_so (BreakOrFlat b f) Flat ms = spelled_so f Flat ms
spelled_so (Group d) Break ms =
    spelled_group d (first_mode ms) (spelled_in d (first_mode ms) (later_modes ms)) (spelled_so d (first_mode ms) (later_modes ms))
spelled_so (Group d) Flat ms = spelled_so d Flat ms
spelled_so d m ms = tt

-- ---- whole layouts

whole_end : (o : RenderOptions) (x : Outcome) (c : List ℕ) → bytes_of (and_then x (settle_end o)) ≡ Whole c
    → ((b : List ℕ) (u : State) → x ≡ Done b u → u.pending ≡ []) → (u : State) × (x ≡ Done c u)
whole_end o (Done b t) c h none =
    let end : settle_end o t ≡ Done [] t = end_fixed o t
    ∙ ap (λ (ps : List Tree). end_with o (settle o) (settle_end o) ps t) (none b t refl) in
    let e : Whole (b ++ []) ≡ Whole c = sym (ap (λ (y : Outcome). bytes_of (after_bytes b y)) end) ∙ h in
    let same : b ++ [] ≡ c = cc in
    (t, ap (λ (l : List ℕ). Done l t) (sym (append-nil b) ∙ same))
whole_end o (Failed b) c h none = absurd (cc)

-- a layout is written as its document is spelled in the modes of its groups
pub layout_written : LayoutsAreWrittenByModes
layout_written o d bytes later exact h =
    let start : IsClear initial = record { pending = refl; gap = λ e. none_sum } in
    let first = lay o (settle o) d 0 Break [] initial in
    let modes = layout_modes o d in
    let done = whole_end o first bytes (sym (layout_is o d) ∙ h)
    (λ b u e. (laid o later d exact 0 Break [] initial u b [] modes start refl e).clear.pending) in
    (laid o later d exact 0 Break [] initial done.0 bytes [] modes start refl done.1).written

pub layouts_are_spellings : (o : RenderOptions) (d : Tree) (bytes : List ℕ) → o.indentation_policy ≡ Deferred → IsExact d
    → layout o d ≡ Whole bytes → (bits : List Bit) × IsSpelled d Break bits × AreWritten o true bits bytes
layouts_are_spellings o d bytes later exact h =
    let modes = layout_modes o d in
    (spelled_in d Break modes, spelled_so d Break modes, layout_written o d bytes later exact h)
