-- What a line end hides of what follows a document; how lines and layouts end where nothing is pending.
use Rattle.std.proofs.Common.{◌≡◌, ℕ, zero, suc, ◌+◌, arith, List, [], ◌∷◌, append-nil, refl, ap, sym, ◌∙◌, Bool, true, false}
use Rattle.std.proofs.Common.{if◌then◌else◌, inl, inr}
use Rattle.prettyless_model.specs.declared.options.RenderOptions.{RenderOptions}
use Rattle.prettyless_model.specs.Spaces.{spaces}
use Rattle.prettyless_model.specs.Tree.{Tree, size, Fail, MultilineText, HardLine, Append, Indented, BreakOrFlat, Group, Union}
use Rattle.prettyless_model.specs.Tree.{PartialUnion, Chosen}
use Rattle.prettyless_model.specs.Column.{gap, prospective}
use Rattle.prettyless_model.specs.Indent.{indent_by}
use Rattle.prettyless_model.specs.Choice.{choice_holds}
use Rattle.prettyless_model.specs.Look.{Look, answer_of, look}
use Rattle.prettyless_model.specs.Layout.{State, Outcome, Done, Whole, Entry, Breaks, after_bytes, and_then, bytes_of, break_with, breaks}
use Rattle.prettyless_model.specs.Layout.{end_with, finish, lay_ending, layout, layout_by, next_indent, rest_fits}
use Rattle.prettyless_model.specs.Levels.{settle, queued}
use Rattle.prettyless_model.specs.declared.column.Column.{Column}
use Rattle.prettyless_model.specs.declared.mode.Mode.{Mode}
use Rattle.prettyless_model.specs.declared.mode.Mode.TheVariants.{Break}
use Rattle.prettyless_model.proofs.Looks.{answer-each, answer-then}
use Rattle.prettyless_laws.specs.Parts.{ReadsAlike, EndsItsLine, LineEndsHideWhatFollows, LineEndsHideTheirRight, LayoutsGoByWhatFollows}
use Rattle.prettyless_laws.specs.Parts.{BreaksReadAlike, HardLinesTakeAnIndent, HardLinesEndLines, LayoutsEndWithNothingPending}
use Rattle.prettyless_laws.proofs.Following.{breaks_alike, each_alike, lay_alike, then-same}

pub laid_alike : LayoutsGoByWhatFollows
laid_alike o brk d i m a b st k h = lay_alike o brk k d i m a b st h

settle_alike : (o : RenderOptions) → ReadsAlike (settle o)
unfolding settle
settle_alike o = λ d i m a b st h. breaks_alike o (suc (queued st.pending)) d i m a b st h

pub breaks_read_alike : BreaksReadAlike
breaks_read_alike o = (breaks_alike o, settle_alike o)

-- one of two answers, by one test
either-answer : (t : Bool) (x y : Look) (f g : Column → Bool → Bool) → answer_of x f ≡ answer_of x g → answer_of y f ≡ answer_of y g
    → answer_of (if t then x else y) f ≡ answer_of (if t then x else y) g
either-answer true x y f g h k = h
either-answer false x y f g h k = k

-- nothing is asked of what comes after the end of a line
hidden : (w : ℕ) (d : Tree) (i : ℕ) (c : Column) (p : Bool) (f g : Column → Bool → Bool) → EndsItsLine d
    → answer_of (look w d i Break c p) f ≡ answer_of (look w d i Break c p) g
hidden w Fail i c p f g h = refl
hidden w (MultilineText s) i c p f g h = refl
hidden w HardLine i c p f g h = refl
hidden w (Append l r) i c p f g (inl h) =
    answer-then (look w l i Break c p) (λ e q. look w r i Break e q) f
    ∙ hidden w l i c p (λ e q. answer_of (look w r i Break e q) f) (λ e q. answer_of (look w r i Break e q) g) h
    ∙ sym (answer-then (look w l i Break c p) (λ e q. look w r i Break e q) g)
hidden w (Append l r) i c p f g (inr h) =
    answer-then (look w l i Break c p) (λ e q. look w r i Break e q) f
    ∙ answer-each (look w l i Break c p) (λ e q. answer_of (look w r i Break e q) f) (λ e q. answer_of (look w r i Break e q) g)
    (λ e q. hidden w r i e q f g h)
    ∙ sym (answer-then (look w l i Break c p) (λ e q. look w r i Break e q) g)
hidden w (Indented how d) i c p f g h = hidden w d (indent_by how i c) c p f g h
hidden w (BreakOrFlat b x) i c p f g h = hidden w b i c p f g h
hidden w (Group d) i c p f g h = hidden w d i c p f g h
hidden w (Union l r) i c p f g h = hidden w r i c p f g h
hidden w (PartialUnion l r) i c p f g h = hidden w r i c p f g h
hidden w (Chosen test y n) i c p f g h =
    either-answer (choice_holds test (prospective c) i) (look w y i Break c p) (look w n i Break c p) f g (hidden w y i c p f g h.0)
    (hidden w n i c p f g h.1)
hidden w _ i c p f g h = absurd h

pub line_end_hides : LineEndsHideWhatFollows
line_end_hides i d a b h =
    (λ j. refl, λ w c p. hidden w d i c p (λ e q. rest_fits w a e q) (λ e q. rest_fits w b e q) h)

pub line_end_hides_right : LineEndsHideTheirRight
line_end_hides_right i l r a b h = (
  λ j. refl,
  λ w c p.
      answer-then (look w l i Break c p) (λ e q. look w r i Break e q) (λ e q. rest_fits w a e q)
      ∙ hidden w l i c p (λ e q. answer_of (look w r i Break e q) (λ u v. rest_fits w a u v)) (λ e q. rest_fits w b e q) h,
)

hard_break : (o : RenderOptions) (brk : Breaks) → ReadsAlike brk → (ps : List Tree) (i : ℕ) (m : Mode) (a b : List Entry) (st : State)
    → next_indent i a ≡ next_indent i b → ((u : State) → brk HardLine i m a u ≡ brk HardLine i m b u)
    → break_with o brk ps HardLine i m a st ≡ break_with o brk ps HardLine i m b st
hard_break o brk k [] i m a b st h again = ap (λ (n : ℕ). lay_ending o o.indentation_policy n st) h
hard_break o brk k (p ∷ ps) i m a b st h again =
    ap (after_bytes (spaces (gap st.column)))
    (then-same _ _ _ _
    (each_alike o brk k _ _ _ _ _ _ (line_end_hides i HardLine a b tt))
    again)

pub hard_takes_indent : HardLinesTakeAnIndent
unfolding breaks
hard_takes_indent o zero i m a b st h = refl
hard_takes_indent o (suc n) i m a b st h =
    hard_break o (breaks o n) (breaks_alike o n) st.pending i m a b st h (λ u. hard_takes_indent o n i m a b u h)

pub hard_ends_line : HardLinesEndLines
unfolding breaks
hard_ends_line o n i m rest st h = ap (λ (ps : List Tree). break_with o (breaks o n) ps HardLine i m rest st) h

nothing_left : (o : RenderOptions) (brk : Breaks) (n : ℕ) (st : State) → st.pending ≡ [] → finish o brk (suc n) st ≡ Done [] st
unfolding finish
nothing_left o brk n st h = ap (λ (ps : List Tree). end_with o brk (finish o brk n) ps st) h

one-more : (n : ℕ) → suc n ≡ n + 1
one-more n = omega arith

pub layout_ends : LayoutsEndWithNothingPending
unfolding layout layout_by
layout_ends o d bytes st h p =
    let brk = breaks o (size d + 1) in
    let ended : finish o brk (size d + 1) st ≡ Done [] st =
    ap (λ (n : ℕ). finish o brk n st) (sym (one-more (size d))) ∙ nothing_left o brk (size d) st p in
    ap (λ (x : Outcome). bytes_of (and_then x (λ u. finish o brk (size d + 1) u))) h
    ∙ ap (λ (x : Outcome). bytes_of (after_bytes bytes x)) ended
    ∙ ap Whole (append-nil bytes)
