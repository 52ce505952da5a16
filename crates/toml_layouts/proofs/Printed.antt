-- Documents in Break where nothing is pending: what they write, at which column, and what a probe finds that looks at what follows.
use Rattle.std.proofs.Common.{◌≡◌, refl, sym, ◌∙◌, ap, subst, ℕ, suc, ◌+◌, ◌-◌, ◌^◌, ◌≤◌, ◌<◌, min, Bool, true, false, ◌&&◌, nat_le, List}
use Rattle.std.proofs.Common.{[], ◌∷◌, ◌++◌, length, inl, inr, ◌⊎◌, arith, append-nil}
use Rattle.std.specs.Prelude.{if◌then◌else◌}
use Rattle.std.proofs.Math.Bool.{and-true}
use Rattle.std.proofs.lemmas.Bool.{cases_Bool, le-leb, leb-true, leb-false, lt-leb}
use Rattle.prettyless_model.specs.declared.column.Column.{Column}
use Rattle.prettyless_model.specs.declared.mode.Mode.TheVariants.{Break}
use Rattle.prettyless_model.specs.declared.options.IndentationPolicy.{IndentationPolicy}
use Rattle.prettyless_model.specs.declared.options.IndentationPolicy.TheVariants.{Eager, Deferred}
use Rattle.prettyless_model.specs.declared.options.RenderOptions.{RenderOptions}
use Rattle.prettyless_model.specs.Column.{commit, gap, start}
use Rattle.prettyless_model.specs.Metrics.{is_ascii, text_width}
use Rattle.prettyless_model.specs.Layout.{State, Outcome, Done, Failed, Entry, Breaks, after_bytes, and_then, breaks, entry, lay}
use Rattle.prettyless_model.specs.Layout.{lay_ending, lay_text, next_indent, rest_fits}
use Rattle.prettyless_model.specs.Look.{GoesOn, Answers, answer_of, look, look_text}
use Rattle.prettyless_model.specs.Spaces.{spaces}
use Rattle.prettyless_model.specs.Tree.{Tree, Nil, Text, TextWithLen, HardLine, BreakOrFlat}
use Rattle.prettyless_model.proofs.Looks.{answer-then}
use Rattle.prettyless_trees.specs.Built.{append}
use Rattle.prettyless_trees.specs.Counted.{text}
use Rattle.prettyless_laws.proofs.LineEnds.{hard_ends_line}
use Rattle.toml_layouts.specs.Laws.{options_with}

-- ---- printers

-- no column is greater
abbrev pub greatest : ℕ
greatest = 2 ^ 64 - 1

-- the width and the policy of a printer, and the levels that its breaks have
pub record Printer : Type 0 where
  pub width : ℕ
  pub policy : IndentationPolicy
  pub levels : ℕ
  pub narrow : width < greatest

abbrev pub options_of : Printer → RenderOptions
options_of p = options_with p.width p.policy

abbrev pub breaks_of : Printer → Breaks
breaks_of p = breaks (options_of p) (suc p.levels)

abbrev pub in_break : Printer → Tree → List Entry → State → Outcome
in_break p d rest st = lay (options_of p) (breaks_of p) d 0 Break rest st

-- ---- states and outcomes

-- nothing is pending, and no gap is due
pub record Idle (st : State) : Type 0 where
  pub pending : st.pending ≡ []
  pub indent : st.column.indent ≡ 0
  pub padding : st.column.padding ≡ 0
  pub within : st.column.position ≤ greatest

-- the same, after so many columns
abbrev pub At : ℕ → State → Type 0
At c st = Idle st × (st.column.position ≡ min c greatest)

-- an outcome of these bytes, and Q of the state after them
pub record Prints (x : Outcome) (bytes : List ℕ) (Q : State → Type 0) : Type 0 where
  pub after : State
  pub done : x ≡ Done bytes after
  pub state : Q after

pub prints_same : {Q : State → Type 0} {x y : Outcome} {a b : List ℕ} → x ≡ y → a ≡ b → Prints y b Q → Prints x a Q
prints_same e f h = record { after = h.after; done = e ∙ h.done ∙ ap (λ (bytes : List ℕ). Done bytes h.after) (sym f); state = h.state }

pub prints_as : {Q R : State → Type 0} {x : Outcome} {a : List ℕ} → ((u : State) → Q u → R u) → Prints x a Q → Prints x a R
prints_as f h = record { after = h.after; done = h.done; state = f h.after h.state }

pub prints_idle : {x : Outcome} {a : List ℕ} (c : ℕ) → Prints x a (At c) → Prints x a Idle
prints_idle c h = record { after = h.after; done = h.done; state = h.state.0 }

pub prints_at : {c d : ℕ} {x : Outcome} {a : List ℕ} → c ≡ d → Prints x a (At c) → Prints x a (At d)
prints_at {c} {d} {x} {a} e h = subst (λ (n : ℕ). Prints x a (At n)) e h

-- one after the other
then_prints : {Q R : State → Type 0} {x : Outcome} {a b : List ℕ} {next : State → Outcome} → Prints x a Q
    → ((u : State) → Q u → Prints (next u) b R) → Prints (and_then x next) (a ++ b) R
then_prints {Q} {R} {x} {a} {b} {next} h k =
    let later = k h.after h.state in
    record {
      after = later.after;
      done = ap (λ (y : Outcome). and_then y next) h.done ∙ ap (after_bytes a) later.done;
      state = later.state;
    }

abbrev laid_bytes : Outcome → List ℕ
laid_bytes (Done b st) = b
laid_bytes (Failed b) = b

abbrev laid_state : State → Outcome → State
laid_state u (Done b st) = st
laid_state u (Failed b) = u

-- what prints nothing
nothing_is : {Q : State → Type 0} {a : List ℕ} (u : State) → Prints (Done [] u) a Q → (a ≡ []) × Q u
nothing_is {Q} {a} u h = (sym (ap laid_bytes h.done), subst Q (sym (ap (laid_state u) h.done)) h.state)

-- ---- texts

pub commits : (c w : ℕ) (column : Column) → column.indent ≡ 0 → column.padding ≡ 0 → column.position ≡ min c greatest
    → (commit w column).position ≡ min (c + w) greatest
commits c w column e f g = rw (e, f, g) (omega arith)

no_gap : (column : Column) → column.indent ≡ 0 → column.padding ≡ 0 → spaces (gap column) ≡ []
no_gap column e f = rw (e, f) refl

min_within : (c : ℕ) → min c greatest ≤ greatest
min_within c = omega arith

nothing_more : (c : ℕ) → min c greatest ≡ min (c + 0) greatest
nothing_more c = omega arith

-- some bytes, of counted width w
bytes_print : (o : RenderOptions) (w c b : ℕ) (bs : List ℕ) (st : State) → At c st → Prints (lay_text o w (b ∷ bs) st) (b ∷ bs) (At (c + w))
bytes_print o w c b bs st h =
    let column = commit w st.column in
    let after : State = record st { column = column; within = st.within && nat_le column.position o.width } in
    let at = commits c w st.column h.0.indent h.0.padding h.1 in
    record {
      after = after;
      done = ap (λ (s : List ℕ). Done (s ++ (b ∷ bs)) after) (no_gap st.column h.0.indent h.0.padding);
      state = (
        record {
          pending = h.0.pending;
          indent = refl;
          padding = refl;
          within = subst (λ (n : ℕ). n ≤ greatest) (sym at) (min_within (c + w));
        },
        at,
      );
    }

text_prints : (o : RenderOptions) (c : ℕ) (s : List ℕ) (st : State) → At c st
    → Prints (lay_text o (text_width s) s st) s (At (c + text_width s))
text_prints o c [] st h = record { after = st; done = refl; state = (h.0, h.1 ∙ nothing_more c) }
text_prints o c (b ∷ bs) st h = bytes_print o (text_width (b ∷ bs)) c b bs st h

-- a column is where a state is
somewhere : (n : ℕ) → n ≤ greatest → n ≡ min n greatest
somewhere n h = omega (arith, h)

pub idle_at : (st : State) → Idle st → At st.column.position st
idle_at st h = (h, somewhere st.column.position h.within)

pub uncounted_prints : (o : RenderOptions) (w : ℕ) (s : List ℕ) (st : State) → Idle st → Prints (lay_text o w s st) s Idle
uncounted_prints o w [] st h = record { after = st; done = refl; state = h }
uncounted_prints o w (b ∷ bs) st h = prints_idle (st.column.position + w) (bytes_print o w st.column.position b bs st (idle_at st h))

either_text : (p : Printer) (t : Bool) (w : ℕ) (s : List ℕ) (rest : List Entry) (st : State)
    → in_break p (if t then Text s else TextWithLen (if t then length s else w) s) rest st ≡ lay_text (options_of p) (if t then length s else w) s st
unfolding lay
either_text p true w s rest st = refl
either_text p false w s rest st = refl

text_is : (p : Printer) (s : List ℕ) (rest : List Entry) (st : State)
    → in_break p (text s) rest st ≡ lay_text (options_of p) (text_width s) s st
unfolding lay
text_is p [] rest st = refl
text_is p (b ∷ bs) rest st = either_text p (is_ascii (b ∷ bs)) _ (b ∷ bs) rest st

pub text_at : (p : Printer) (c : ℕ) (s : List ℕ) (rest : List Entry) (st : State) → At c st
    → Prints (in_break p (text s) rest st) s (At (c + text_width s))
text_at p c s rest st h = prints_same (text_is p s rest st) refl (text_prints (options_of p) c s st h)

pub sign_at : (p : Printer) (c b : ℕ) (bs : List ℕ) (rest : List Entry) (st : State) → At c st
    → Prints (in_break p (Text (b ∷ bs)) rest st) (b ∷ bs) (At (c + length (b ∷ bs)))
unfolding lay
sign_at p c b bs rest st h = bytes_print (options_of p) (length (b ∷ bs)) c b bs st h

-- ---- line ends

ending_prints : (p : Printer) (policy : IndentationPolicy) (st : State) → Idle st
    → Prints (lay_ending (options_of p) policy 0 st) (10 ∷ []) (At 0)
ending_prints p Eager st h = record {
  after = record st { column = start };
  done = refl;
  state = (record { pending = h.pending; indent = refl; padding = refl; within = omega arith }, omega arith);
}
ending_prints p Deferred st h = record {
  after = record st { column = start };
  done = refl;
  state = (record { pending = h.pending; indent = refl; padding = refl; within = omega arith }, omega arith);
}

pub line_at : (p : Printer) (rest : List Entry) (st : State) → next_indent 0 rest ≡ 0 → Idle st
    → Prints (in_break p HardLine rest st) (10 ∷ []) (At 0)
unfolding lay
line_at p rest st e h =
    prints_same
    (hard_ends_line (options_of p) p.levels 0 Break rest st h.pending ∙ ap (λ (n : ℕ). lay_ending (options_of p) p.policy n st) e)
    refl
    (ending_prints p p.policy st h)

-- ---- one document after another

-- what follows is the same for a break and for a probe
abbrev pub SeenAs : Printer → List Entry → List Entry → Type 0
SeenAs p a b = (next_indent 0 a ≡ 0) × ((c : Column) → rest_fits p.width a c false ≡ rest_fits p.width b c false)

pub append_prints : {Q R : State → Type 0} (p : Printer) (x y : Tree) (a b : List ℕ) (rest : List Entry) (st : State)
    → next_indent 0 rest ≡ 0
    → ((front : List Entry) → SeenAs p front (entry 0 y ∷ rest) → Prints (in_break p x front st) a Q)
    → ((u : State) → Q u → Prints (in_break p y rest u) b R)
    → Prints (in_break p (append x y) rest st) (a ++ b) R
unfolding lay
append_prints p Nil y a b rest st e h k =
    let none = nothing_is st (h (entry 0 y ∷ rest) (refl, λ c. refl)) in
    prints_same refl (ap (λ (s : List ℕ). s ++ b) none.0) (k st none.1)
append_prints {Q} {R} p x Nil a b rest st e h k =
    let first = h rest (e, λ c. refl) in
    let none = nothing_is first.after (k first.after first.state) in
    prints_same refl (ap (λ (s : List ℕ). a ++ s) none.0 ∙ append-nil a) (record { after = first.after; done = first.done; state = none.1 })
append_prints p x y a b rest st e h k = then_prints (h (entry 0 y ∷ rest) (refl, λ c. refl)) k

-- a document is laid to these bytes wherever nothing is pending
abbrev pub Always : Printer → Tree → List ℕ → Type 0
Always p d s = (rest : List Entry) (st : State) → next_indent 0 rest ≡ 0 → Idle st → Prints (in_break p d rest st) s Idle

pub always_append : (p : Printer) (x y : Tree) {a b : List ℕ} → Always p x a → Always p y b → Always p (append x y) (a ++ b)
always_append p x y {a} {b} f g = λ rest st e h.
    append_prints p x y a b rest st e (λ front s. f front st s.0 h) (λ u i. g rest u e i)

pub always_same : (p : Printer) (d : Tree) {a b : List ℕ} → a ≡ b → Always p d b → Always p d a
always_same p d same f = λ rest st e h. prints_same refl same (f rest st e h)

pub always_nothing : (p : Printer) → Always p Nil []
unfolding lay
always_nothing p = λ rest st e h. record { after = st; done = refl; state = h }

pub always_text : (p : Printer) (s : List ℕ) → Always p (text s) s
always_text p s = λ rest st e h. prints_idle (st.column.position + text_width s) (text_at p st.column.position s rest st (idle_at st h))

pub always_sign : (p : Printer) (b : ℕ) (bs : List ℕ) → Always p (Text (b ∷ bs)) (b ∷ bs)
always_sign p b bs = λ rest st e h.
    prints_idle (st.column.position + length (b ∷ bs)) (sign_at p st.column.position b bs rest st (idle_at st h))

pub always_counted : (p : Printer) (w : ℕ) (s : List ℕ) → Always p (TextWithLen w s) s
unfolding lay
always_counted p w s = λ rest st e h. uncounted_prints (options_of p) w s st h

pub always_line : (p : Printer) → Always p HardLine (10 ∷ [])
always_line p = λ rest st e h. prints_idle 0 (line_at p rest st e h)

pub always_broken : (p : Printer) (d f : Tree) {s : List ℕ} → Always p d s → Always p (BreakOrFlat d f) s
unfolding lay
always_broken p d f h = h

-- ---- what follows

-- what follows takes k columns up to the end of its line
abbrev pub Follows : Printer → ℕ → List Entry → Type 0
Follows p k rest =
    (c : Column) → c.indent ≡ 0 → c.padding ≡ 0
    → (nat_le c.position p.width && rest_fits p.width rest c false) ≡ nat_le (c.position + k) p.width

-- a line ends at once
abbrev pub EndsNext : Printer → List Entry → Type 0
EndsNext p rest = (c : Column) → rest_fits p.width rest c false ≡ true

pub tests_same : (a b w : ℕ) → (a ≤ w → b ≤ w) → (b ≤ w → a ≤ w) → nat_le a w ≡ nat_le b w
tests_same a b w f g = by (cases_Bool (nat_le a w))
  where
    by : (nat_le a w ≡ true) ⊎ (nat_le a w ≡ false) → nat_le a w ≡ nat_le b w
    by (inl e) = e ∙ sym (le-leb b w (f (leb-true a w e)))
    by (inr e) = e ∙ sym (lt-leb b w (above (leb-false a w e)))
      where
        above : w < a → w < b
        above h = by-order (cases_Bool (nat_le b w))
          where
            by-order : (nat_le b w ≡ true) ⊎ (nat_le b w ≡ false) → w < b
            by-order (inl k) = let l = g (leb-true b w k) in absurd (omega (arith, l, h))
            by-order (inr k) = leb-false b w k

pub end_follows : (p : Printer) (rest : List Entry) → EndsNext p rest → Follows p 0 rest
end_follows p rest h c e f =
    ap (λ (x : Bool). nat_le c.position p.width && x) (h c) ∙ and-true (nat_le c.position p.width)
    ∙ tests_same c.position (c.position + 0) p.width (λ l. omega (arith, l)) (λ l. omega (arith, l))

pub seen_follows : (p : Printer) (k : ℕ) (a b : List Entry) → SeenAs p a b → Follows p k b → Follows p k a
seen_follows p k a b s h c e f = ap (λ (x : Bool). nat_le c.position p.width && x) (s.1 c) ∙ h c e f

pub follows_same : (p : Printer) (k : ℕ) (a b : List Entry) → ((c : Column) → rest_fits p.width a c false ≡ rest_fits p.width b c false)
    → Follows p k b → Follows p k a
follows_same p k a b s h c e f = ap (λ (x : Bool). nat_le c.position p.width && x) (s c) ∙ h c e f

-- the documents that are appended are looked at one after the other
pub append_fits : (p : Printer) (x y : Tree) (rest : List Entry) (c : Column)
    → rest_fits p.width (entry 0 (append x y) ∷ rest) c false ≡ rest_fits p.width (entry 0 x ∷ entry 0 y ∷ rest) c false
append_fits p Nil y rest c = refl
append_fits p x Nil rest c = refl
append_fits p x y rest c =
    answer-then (look p.width x 0 Break c false) (λ d q. look p.width y 0 Break d q) (λ d q. rest_fits p.width rest d q)

both_asked : (column : Column) (next : Column → Bool → Bool) (a b : Bool) → (b ≡ true → a ≡ true)
    → (a && answer_of (if b then GoesOn column false else Answers false) next) ≡ (b && next column false)
both_asked column next true true f = refl
both_asked column next false true f = absurd (no_yes (f refl))
  where
    no_yes : false ≡ true → ⊥
    no_yes e = absurd (cc)
both_asked column next true false f = refl
both_asked column next false false f = refl

moves : (w : ℕ) (column : Column) → column.indent ≡ 0 → column.padding ≡ 0 → (commit w column).position ≡ min (column.position + w) greatest
moves w column e f = rw (e, f) (omega arith)

shorter : (a w m : ℕ) → m < greatest → min (a + w) greatest ≤ m → a ≤ m
shorter a w m n l = omega (arith, n, l)

pub sums_to : (a w k m : ℕ) → m < greatest → min (a + w) greatest + k ≤ m → a + (w + k) ≤ m
sums_to a w k m n l = omega (arith, n, l)

pub sums_from : (a w k m : ℕ) → m < greatest → a + (w + k) ≤ m → min (a + w) greatest + k ≤ m
sums_from a w k m n l = omega (arith, n, l)

-- some bytes, and what follows them
bytes_follow : (p : Printer) (w b : ℕ) (bs : List ℕ) (k : ℕ) (rest : List Entry) → Follows p k rest → (c : Column) → c.indent ≡ 0
    → c.padding ≡ 0
    → (nat_le c.position p.width && answer_of (look_text p.width w (b ∷ bs) c false) (λ d q. rest_fits p.width rest d q))
    ≡ nat_le (c.position + (w + k)) p.width
bytes_follow p w b bs k rest h c e f =
    let d = commit w c in
    let at = moves w c e f in
    both_asked d (λ x q. rest_fits p.width rest x q) (nat_le c.position p.width) (nat_le d.position p.width)
    (λ yes. le-leb c.position p.width
    (shorter c.position w p.width p.narrow
    (leb-true (min (c.position + w) greatest) p.width (ap (λ (n : ℕ). nat_le n p.width) (sym at) ∙ yes))))
    ∙ h d refl refl
    ∙ ap (λ (n : ℕ). nat_le (n + k) p.width) at
    ∙ tests_same (min (c.position + w) greatest + k) (c.position + (w + k)) p.width
    (λ l. sums_to c.position w k p.width p.narrow l)
    (λ l. sums_from c.position w k p.width p.narrow l)

pub sign_follows : (p : Printer) (b : ℕ) (bs : List ℕ) (k : ℕ) (rest : List Entry) → Follows p k rest
    → Follows p (length (b ∷ bs) + k) (entry 0 (Text (b ∷ bs)) ∷ rest)
sign_follows p b bs k rest h c e f = bytes_follow p (length (b ∷ bs)) b bs k rest h c e f

-- what takes no columns before a line end
abbrev pub Quiet : Printer → Tree → Type 0
Quiet p d = (rest : List Entry) → Follows p 0 rest → Follows p 0 (entry 0 d ∷ rest)

pub quiet_nothing : (p : Printer) → Quiet p Nil
quiet_nothing p rest h = h

pub line_next : (p : Printer) (rest : List Entry) → EndsNext p (entry 0 HardLine ∷ rest)
line_next p rest c = refl

pub quiet_line : (p : Printer) → Quiet p HardLine
quiet_line p rest h = end_follows p (entry 0 HardLine ∷ rest) (line_next p rest)

pub quiet_uncounted : (p : Printer) (s : List ℕ) → Quiet p (TextWithLen 0 s)
quiet_uncounted p [] rest h = h
quiet_uncounted p (b ∷ bs) rest h = λ c e f. bytes_follow p 0 b bs 0 rest h c e f

pub quiet_append : (p : Printer) (x y : Tree) → Quiet p x → Quiet p y → Quiet p (append x y)
quiet_append p x y f g rest h =
    follows_same p 0 (entry 0 (append x y) ∷ rest) (entry 0 x ∷ entry 0 y ∷ rest) (append_fits p x y rest)
    (f (entry 0 y ∷ rest) (g rest h))
