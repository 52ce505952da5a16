-- Parts of a layout at columns where nothing is pending: texts, line ends, and groups that fit or are broken.
use Rattle.std.proofs.Common.{◌≡◌, refl, sym, ◌∙◌, ap, subst, ℕ, zero, suc, ◌+◌, ◌-◌, ◌^◌, ◌≤◌, Bool, true, false, ◌&&◌, nat_le, List, []}
use Rattle.std.proofs.Common.{◌∷◌, ◌++◌, length, inl, inr, ◌⊎◌, arith}
use Rattle.std.specs.Prelude.{if◌then◌else◌, pos}
use Rattle.std.proofs.Math.Bool.{and-true}
use Rattle.std.proofs.lemmas.Bool.{cases_Bool, le-leb, leb-true}
use Rattle.prettyless_model.specs.declared.column.Column.{Column}
use Rattle.prettyless_model.specs.declared.options.RenderOptions.{RenderOptions}
use Rattle.prettyless_model.specs.declared.mode.Mode.TheVariants.{Break}
use Rattle.prettyless_model.specs.Column.{saturating_add, commit, gap, indented}
use Rattle.prettyless_model.specs.Metrics.{is_ascii, text_width}
use Rattle.prettyless_model.specs.Layout.{State, Outcome, Done, Entry, Breaks, after_bytes, and_then, breaks, entry, lay, lay_text}
use Rattle.prettyless_model.specs.Layout.{rest_fits, some_pending}
use Rattle.prettyless_model.specs.Look.{GoesOn, Answers, answer_of, look_text}
use Rattle.prettyless_model.specs.Options.{options_at}
use Rattle.prettyless_model.specs.Spaces.{spaces}
use Rattle.prettyless_model.specs.Tree.{Tree, Text, TextWithLen, HardLine, Append, BreakOrFlat, Group}
use Rattle.prettyless_trees.specs.Built.{nest}
use Rattle.prettyless_trees.specs.Counted.{text}
use Rattle.prettyless_laws.specs.Parts.{IsInline, flat_bytes, flat_columns, text_fits}
use Rattle.prettyless_laws.proofs.Inline.{group_is_text, unfit_is_broken}
use Rattle.prettyless_laws.proofs.LineEnds.{hard_ends_line}
use Rattle.json_formatter.specs.ByValue.{fits_width, new_line}
use Rattle.json_formatter.specs.Documents.{greatest_width}
use Rattle.json_formatter.specs.declared.style.Style.{Style}
use Rattle.json_formatter.proofs.ValueTrees.{opening}

-- ---- columns

-- no column is greater
abbrev pub greatest : ℕ
greatest = 2 ^ 64 - 1

pub sum_within : (a b : ℕ) → saturating_add a b ≤ greatest
sum_within a b = omega arith

pub no_more_columns : (a : ℕ) → a ≤ greatest → saturating_add a 0 ≡ a
no_more_columns a h = omega (arith, h)

pub sum_twice : (a b c : ℕ) → saturating_add (saturating_add a b) c ≡ saturating_add a (b + c)
sum_twice a b c = omega arith

-- ---- states and outcomes

-- nothing is pending, and no gap is due
pub record Rested (st : State) : Type 0 where
  pub pending : st.pending ≡ []
  pub indent : st.column.indent ≡ 0
  pub padding : st.column.padding ≡ 0
  pub within : st.column.position ≤ greatest

-- the same, at this column
abbrev pub At : ℕ → State → Type 0
At c st = Rested st × (st.column.position ≡ c)

-- an outcome of these bytes, and Q of the state after them
pub record Writes (x : Outcome) (bytes : List ℕ) (Q : State → Type 0) : Type 0 where
  pub after : State
  pub done : x ≡ Done bytes after
  pub state : Q after

-- one after the other
pub then_writes : {Q R : State → Type 0} {x : Outcome} {a b : List ℕ} {next : State → Outcome} → Writes x a Q
    → ((u : State) → Q u → Writes (next u) b R) → Writes (and_then x next) (a ++ b) R
then_writes {Q} {R} {x} {a} {b} {next} h k =
    let later = k h.after h.state in
    record {
      after = later.after;
      done = ap (λ (y : Outcome). and_then y next) h.done ∙ ap (after_bytes a) later.done;
      state = later.state;
    }

pub writes_same : {Q : State → Type 0} {x y : Outcome} {a b : List ℕ} → x ≡ y → a ≡ b → Writes y b Q → Writes x a Q
writes_same e f h = record { after = h.after; done = e ∙ h.done ∙ ap (λ (bytes : List ℕ). Done bytes h.after) (sym f); state = h.state }

pub writes_rested : {c : ℕ} {x : Outcome} {a : List ℕ} → Writes x a (At c) → Writes x a Rested
writes_rested h = record { after = h.after; done = h.done; state = h.state.0 }

-- the column of a text that is laid there
commits : (c w : ℕ) (column : Column) → column.indent ≡ 0 → column.padding ≡ 0 → column.position ≡ c
    → (commit w column).position ≡ saturating_add c w
commits c w column e f g = rw (e, f, g) (omega arith)

no_gap : (column : Column) → column.indent ≡ 0 → column.padding ≡ 0 → spaces (gap column) ≡ []
no_gap column e f = rw (e, f) refl

-- a text of counted width
pub text_writes : (o : RenderOptions) (w c : ℕ) (b : ℕ) (bs : List ℕ) (st : State) → At c st
    → Writes (lay_text o w (b ∷ bs) st) (b ∷ bs) (At (saturating_add c w))
text_writes o w c b bs st h =
    let column = commit w st.column in
    let after : State = record st { column = column; within = st.within && nat_le column.position o.width } in
    let at = commits c w st.column h.0.indent h.0.padding h.1 in
    record {
      after = after;
      done = ap (λ (s : List ℕ). Done (s ++ (b ∷ bs)) after) (no_gap st.column h.0.indent h.0.padding);
      state = (
        record { pending = h.0.pending; indent = refl; padding = refl; within = subst (λ (n : ℕ). n ≤ greatest) (sym at) (sum_within c w) },
        at,
      );
    }

-- what is laid as a text
abbrev pub IsTextOf : List ℕ → Tree → Type 0
IsTextOf s t = (t ≡ Text s) × (length s ≡ text_width s) ⊎ (t ≡ TextWithLen (text_width s) s)

pub text_is : (b : ℕ) (bs : List ℕ) → IsTextOf (b ∷ bs) (text (b ∷ bs))
text_is b bs = by (cases_Bool (is_ascii (b ∷ bs)))
  where
    by : (is_ascii (b ∷ bs) ≡ true) ⊎ (is_ascii (b ∷ bs) ≡ false) → IsTextOf (b ∷ bs) (text (b ∷ bs))
    by (inl e) = inl (rw e refl, rw e refl)
    by (inr e) = inr (rw e refl)

-- a lexeme
pub lexeme_writes : (o : RenderOptions) (brk : Breaks) (b : ℕ) (bs : List ℕ) (i c : ℕ) (rest : List Entry) (st : State) → At c st
    → Writes (lay o brk (text (b ∷ bs)) i Break rest st) (b ∷ bs) (At (saturating_add c (text_width (b ∷ bs))))
unfolding lay
lexeme_writes o brk b bs i c rest st h = by (text_is b bs)
  where
    by : IsTextOf (b ∷ bs) (text (b ∷ bs)) → Writes (lay o brk (text (b ∷ bs)) i Break rest st) (b ∷ bs)
        (At (saturating_add c (text_width (b ∷ bs))))
    by (inl e) = rw (e.0, ← e.1) (text_writes o (length (b ∷ bs)) c b bs st h)
    by (inr e) = rw e (text_writes o (text_width (b ∷ bs)) c b bs st h)

-- a bracket that opens a list
pub opening_writes : (o : RenderOptions) (brk : Breaks) (a : ℕ) (b : Bool) (i : ℕ) (rest : List Entry) (st : State) → Rested st
    → Writes (lay o brk (opening a b) i Break rest st) (a ∷ []) Rested
unfolding lay
opening_writes o brk a true i rest st h = writes_rested (text_writes o greatest_width st.column.position a [] st (h, refl))
opening_writes o brk a false i rest st h = writes_rested (text_writes o 1 st.column.position a [] st (h, refl))

-- ---- what follows

-- what follows takes k columns up to the end of its line
abbrev pub Follows : ℕ → List Entry → ℕ → Type 0
Follows width rest k =
    (c : Column) → c.indent ≡ 0 → c.padding ≡ 0 → c.position ≤ greatest
    → (nat_le c.position width && rest_fits width rest c false) ≡ nat_le (saturating_add c.position k) width

-- a line end
pub end_follows : (width : ℕ) (rest : List Entry) → ((c : Column) → rest_fits width rest c false ≡ true) → Follows width rest 0
end_follows width rest h c e f l =
    ap (λ (x : Bool). nat_le c.position width && x) (h c) ∙ and-true (nat_le c.position width)
    ∙ ap (λ (n : ℕ). nat_le n width) (sym (no_more_columns c.position l))

-- two questions, where a yes to the second says yes to the first
both_asked : (column : Column) (next : Column → Bool → Bool) (a b : Bool) → (b ≡ true → a ≡ true)
    → (a && answer_of (if b then GoesOn column false else Answers false) next) ≡ (b && next column false)
both_asked column next true true f = refl
both_asked column next false true f = absurd (no_yes (f refl))
  where
    no_yes : false ≡ true → ⊥
    no_yes e = absurd (cc)
both_asked column next true false f = refl
both_asked column next false false f = refl

-- a text, and what follows it
text_next : (width w b : ℕ) (bs : List ℕ) (k : ℕ) (rest : List Entry) → Follows width rest k → (c : Column) → c.indent ≡ 0 → c.padding ≡ 0
    → c.position ≤ greatest
    → (nat_le c.position width && answer_of (look_text width w (b ∷ bs) c false) (λ d q. rest_fits width rest d q))
    ≡ nat_le (saturating_add c.position (w + k)) width
text_next width w b bs k rest h c e f l =
    let d = commit w c in
    let at = commits c.position w c e f refl in
    let in_width : d.position ≤ greatest = subst (λ (n : ℕ). n ≤ greatest) (sym at) (sum_within c.position w) in
    both_asked d (λ x q. rest_fits width rest x q) (nat_le c.position width) (nat_le d.position width)
    (λ yes. le-leb c.position width
    (shorter c.position w width (leb-true (saturating_add c.position w) width (ap (λ (n : ℕ). nat_le n width) (sym at) ∙ yes)) l))
    ∙ h d refl refl in_width
    ∙ ap (λ (n : ℕ). nat_le (saturating_add n k) width) at
    ∙ ap (λ (n : ℕ). nat_le n width) (sum_twice c.position w k)
  where
    shorter : (a v m : ℕ) → saturating_add a v ≤ m → a ≤ greatest → a ≤ m
    shorter a v m k l = omega (arith, k, l)

-- a lexeme, and what follows it
pub word_follows : (width i b : ℕ) (bs : List ℕ) (k : ℕ) (rest : List Entry) → Follows width rest k
    → Follows width (entry i (text (b ∷ bs)) ∷ rest) (text_width (b ∷ bs) + k)
word_follows width i b bs k rest h = by (text_is b bs)
  where
    by : IsTextOf (b ∷ bs) (text (b ∷ bs)) → Follows width (entry i (text (b ∷ bs)) ∷ rest) (text_width (b ∷ bs) + k)
    by (inl e) = rw (e.0, ← e.1) (λ c p q l. text_next width (length (b ∷ bs)) b bs k rest h c p q l)
    by (inr e) = rw e (λ c p q l. text_next width (text_width (b ∷ bs)) b bs k rest h c p q l)

-- a comma, and then a line end
pub comma_follows : (width i : ℕ) (rest : List Entry) → Follows width rest 0 → Follows width (entry i (Text (44 ∷ [])) ∷ rest) 1
comma_follows width i rest h = λ c p q l. text_next width 1 44 [] 0 rest h c p q l

-- ---- documents in Break

-- a document is laid in Break, with breaks of some levels
abbrev pub in_break : Style → ℕ → Tree → ℕ → List Entry → State → Outcome
in_break style n t i rest st = lay (options_at style.width) (breaks (options_at style.width) (suc n)) t i Break rest st

-- ---- groups

-- a document stands at column c, and what follows it takes k columns up to the end of its line
pub record StandsAt (width c k : ℕ) (rest : List Entry) (st : State) : Type 0 where
  pub at : At c st
  pub follows : Follows width rest k

-- a text fits where it stays within the width with what follows
pub text_fits_as : {c k : ℕ} {rest : List Entry} {st : State} (style : Style) (w b : ℕ) (bs : List ℕ) → StandsAt style.width c k rest st
    → text_fits (options_at style.width) w (b ∷ bs) rest st ≡ nat_le (saturating_add c (w + k)) style.width
text_fits_as {c} {k} {rest} {st} style w b bs place =
    let d = commit w st.column in
    let rested = place.at.0 in
    let at = commits c w st.column rested.indent rested.padding place.at.1 in
    let in_width : d.position ≤ greatest = subst (λ (n : ℕ). n ≤ greatest) (sym at) (sum_within c w) in
    ap (λ ps. nat_le d.position style.width && rest_fits style.width rest d (some_pending ps)) rested.pending
    ∙ place.follows d refl refl in_width
    ∙ ap (λ (n : ℕ). nat_le (saturating_add n k) style.width) at
    ∙ ap (λ (n : ℕ). nat_le n style.width) (sum_twice c w k)

-- a document that is this text on a flat line, in so many columns
pub record IsFlat (d : Tree) (s : List ℕ) (w : ℕ) : Type 0 where
  pub inline : IsInline d
  pub bytes : flat_bytes d ≡ s
  pub columns : flat_columns d ≡ w

some_bytes : (o : RenderOptions) (w : ℕ) (s : List ℕ) (c : ℕ) (st : State) → At c st → Writes (lay_text o w s st) s Rested
some_bytes o w [] c st h = record { after = st; done = refl; state = h.0 }
some_bytes o w (b ∷ bs) c st h = writes_rested (text_writes o w c b bs st h)

-- a group is that line, or its document in Break
pub group_writes : {c k : ℕ} {d : Tree} {b : ℕ} {bs broken : List ℕ} {rest : List Entry} {st : State} (style : Style) (n i : ℕ)
    (line : List ℕ) (columns : ℕ) → IsFlat d line columns → line ≡ b ∷ bs → StandsAt style.width c k rest st
    → Writes (in_break style n d i rest st) broken Rested
    → Writes (in_break style n (Group d) i rest st) (if fits_width style c k columns then line else broken) Rested
group_writes {c} {k} {d} {b} {bs} {broken} {rest} {st} style n i line columns flat some place written =
    by (cases_Bool (fits_width style c k columns))
  where
    answers : text_fits (options_at style.width) (flat_columns d) (flat_bytes d) rest st ≡ fits_width style c k columns
    answers =
        ap (λ (s : List ℕ). text_fits (options_at style.width) (flat_columns d) s rest st) (flat.bytes ∙ some)
        ∙ text_fits_as style (flat_columns d) b bs place
        ∙ ap (λ (w : ℕ). nat_le (saturating_add c (w + k)) style.width) flat.columns

    by : (fits_width style c k columns ≡ true) ⊎ (fits_width style c k columns ≡ false) → Writes (in_break style n (Group d) i rest st)
        (if fits_width style c k columns then line else broken) Rested
    by (inl e) =
        writes_same
        (group_is_text (options_at style.width) (breaks (options_at style.width) (suc n)) d i Break rest st flat.inline (answers ∙ e))
        (rw e (sym flat.bytes))
        (some_bytes (options_at style.width) (flat_columns d) (flat_bytes d) c st place.at)
    by (inr e) =
        writes_same
        (unfit_is_broken (options_at style.width) (breaks (options_at style.width) (suc n)) d i rest st flat.inline (answers ∙ e))
        (rw e refl) written

-- ---- line ends

-- a line in Break, before a document
pub line_writes : (style : Style) (n i j : ℕ) (f d : Tree) (rest : List Entry) (st : State) → Rested st → j ≤ greatest
    → Writes (in_break style n (BreakOrFlat HardLine f) i (entry j d ∷ rest) st) (new_line j) (At j)
unfolding lay
line_writes style n i j f d rest st h l = record {
  after = record st { column = indented j };
  done = hard_ends_line (options_at style.width) n i Break (entry j d ∷ rest) st h.pending;
  state = (record { pending = h.pending; indent = refl; padding = refl; within = l }, refl);
}

-- what is nested, at its indent
pub nest_writes : {Q : State → Type 0} (o : RenderOptions) (brk : Breaks) (k i : ℕ) (l r : Tree) (rest : List Entry) (st : State)
    (bytes : List ℕ) → i ≤ greatest
    → Writes (lay o brk (Append l r) (saturating_add i k) Break rest st) bytes Q
    → Writes (lay o brk (nest (pos k) (Append l r)) i Break rest st) bytes Q
unfolding lay
nest_writes o brk zero i l r rest st bytes h w =
    writes_same (ap (λ (j : ℕ). lay o brk (Append l r) j Break rest st) (sym (no_more_columns i h))) refl w
nest_writes o brk (suc k) i l r rest st bytes h w = w
