-- Flat lines: a probe that answers yes goes through the states that the layout in Flat goes through, and its trace.
use Rattle.std.proofs.Common.{◌≡◌, ℕ, suc, List, [], ◌∷◌, ◌++◌, length, refl, ap, sym, ◌∙◌, append_assoc, append-nil, Bool, true, false}
use Rattle.std.proofs.Common.{not, ◌&&◌, nat_le, if◌then◌else◌, ◌⊎◌, inl, inr}
use Rattle.std.proofs.Math.Bool.{and-true}
use Rattle.std.proofs.lemmas.Bool.{and_parts, leb-true}
use Rattle.std.proofs.lemmas.List.Elements.{All-nil, All-cons, All-append}
use Rattle.prettyless_model.specs.Spaces.{spaces}
use Rattle.prettyless_model.specs.declared.options.RenderOptions.{RenderOptions}
use Rattle.prettyless_model.specs.Tree.{Tree, Nil, Text, TextWithLen, WeakSpace, WeakLine, Append, LineSuffix, Indented, Flatten}
use Rattle.prettyless_model.specs.Tree.{BreakOrFlat, Group, Union, PartialUnion, Chosen}
use Rattle.prettyless_model.specs.Column.{commit, blank, gap, prospective}
use Rattle.prettyless_model.specs.Indent.{indent_by}
use Rattle.prettyless_model.specs.Choice.{choice_holds}
use Rattle.prettyless_model.specs.Look.{Answers, GoesOn, answer_of, look, look_text}
use Rattle.prettyless_model.specs.Layout.{State, Outcome, Done, Entry, Breaks, after_bytes, and_then, lay, lay_text, entry, probe}
use Rattle.prettyless_model.specs.Layout.{rest_fits, some_pending, in_trial, lay_ending, next_indent, break_with, breaks}
use Rattle.prettyless_model.specs.Levels.{settle, queued}
use Rattle.prettyless_model.specs.declared.column.Column.{Column}
use Rattle.prettyless_model.specs.declared.mode.Mode.{Mode}
use Rattle.prettyless_model.specs.declared.mode.Mode.TheVariants.{Break, Flat}
use Rattle.prettyless_model.proofs.Looks.{answer-then}
use Rattle.prettyless_laws.specs.Trace as traces
use Rattle.prettyless_laws.specs.Reading.{IsPlain}
use Rattle.prettyless_laws.specs.Trace.{Gap, Alternative, Side, First, Second, Tracing, Traced, BreakTraces, after_pieces, traced_then}
use Rattle.prettyless_laws.specs.Trace.{trace_text, trace_ending, noted_choice, trace_at, trace_break_with, trace_breaks}
use Rattle.prettyless_laws.specs.FlatLines.{LeavesPending, IsLike, SkipsWeakLines, LaysFlat, LiesOnOneLine, PassesWeakLines, TracesFlat}
use Rattle.prettyless_laws.specs.FlatLines.{IsOnOneLine, IsNoAlternative, IsTracedOnOneLine, IsTracedAsFlatGroup}

-- ---- looks that answer yes

-- the answer is yes from a state, at an indent in Flat, with what is asked of the column after the tree
abbrev Fits : RenderOptions → Tree → ℕ → (Column → Bool → Bool) → State → Type 0
Fits o d i next st = answer_of (look o.width d i Flat st.column (some_pending st.pending)) next ≡ true

pub some_pending-more : (ps : List Tree) (d : Tree) → some_pending (ps ++ d ∷ []) ≡ true
some_pending-more [] d = refl
some_pending-more (p ∷ ps) d = refl

pub none_pending : (ps : List Tree) → not (some_pending ps) ≡ true → ps ≡ []
none_pending [] e = refl
none_pending (p ∷ ps) e = absurd (cc)

-- a look that goes on by a test, or answers no
pub only_on : (t : Bool) (c : Column) (p : Bool) (next : Column → Bool → Bool) → answer_of (if t then GoesOn c p else Answers false)
    next ≡ true
    → (t ≡ true) × (next c p ≡ true)
only_on true c p next e = (refl, e)
only_on false c p next e = absurd (cc)

-- ---- trees that write nothing, or are laid as another

-- a tree that writes nothing and leaves nothing pending
flows_by : {o : RenderOptions} {d : Tree} {i : ℕ} {next : Column → Bool → Bool} {st : State} (u : State) → LaysFlat o d i st [] u
    → LaysFlat o d i (in_trial st) [] (in_trial u) → TracesFlat o d i st [] u → u.within ≡ st.within → u.pending ≡ st.pending
    → LeavesPending d []
    → next u.column (some_pending u.pending) ≡ true → IsTracedOnOneLine o d i next st
flows_by {o} {d} {i} {next} {st} u e f t w p n h = record {
  lies = record {
    bytes = [];
    state = u;
    done = e;
    within = w;
    anew = f;
    own = [];
    leaves = n;
    pending = p ∙ sym (append-nil st.pending);
    follows = h;
  };
  pieces = [];
  traced = t;
  on_one_line = All-nil (IsOnOneLine o.width);
  plain = λ k. All-nil IsNoAlternative;
}

-- where one tree is plain with another
like_as : (d x : Tree) (f : ℕ → ℕ) (i j : ℕ) → (IsPlain d → IsPlain x) → IsLike d i j → IsLike x (f i) (f j)
like_as d x f i j q (inl p) = inl (q p)
like_as d x f i j q (inr e) = inr (ap f e)

-- a tree that is laid and traced as another at an indent of its own
flows_as : {o : RenderOptions} {d : Tree} (x : Tree) {i : ℕ} (f : ℕ → ℕ) {next : Column → Bool → Bool} {st : State}
    → ((brk : Breaks) (j : ℕ) (rest : List Entry) (u : State) → u.column ≡ st.column → lay o brk d j Flat rest u ≡ lay o brk x (f j) Flat
    rest u) → ((brk : BreakTraces) (j : ℕ) (rest : List Entry) → trace_at o brk d j Flat rest st ≡ trace_at o brk x (f j) Flat rest st)
    → ((ds : List Tree) → LeavesPending x ds → LeavesPending d ds) → (IsPlain d → IsPlain x) → IsTracedOnOneLine o x (f i) next st
    → IsTracedOnOneLine o d i next st
flows_as {o} {d} x {i} f {next} {st} e t n q h = record {
  lies = record {
    bytes = h.lies.bytes;
    state = h.lies.state;
    done = λ brk k j a rest. e brk j rest st refl ∙ h.lies.done brk k (f j) (like_as d x f i j q a) rest;
    within = h.lies.within;
    anew = λ brk k j a rest. e brk j rest (in_trial st) refl ∙ h.lies.anew brk k (f j) (like_as d x f i j q a) rest;
    own = h.lies.own;
    leaves = n h.lies.own h.lies.leaves;
    pending = h.lies.pending;
    follows = h.lies.follows;
  };
  pieces = h.pieces;
  traced = λ brk k j a rest. t brk j rest ∙ h.traced brk k (f j) (like_as d x f i j q a) rest;
  on_one_line = h.on_one_line;
  plain = λ p. h.plain (q p);
}

-- ---- choices

-- a tree with a choice has no other indent like its own
only_like : (d : Tree) (i j : ℕ) → (IsPlain d → ⊥) → IsLike d i j → j ≡ i
only_like d i j q (inl p) = absurd (q p)
only_like d i j q (inr e) = e

-- a tree that is laid as another, which its trace notes as an alternative
flows_chosen : {o : RenderOptions} (side : Side) {d : Tree} (x : Tree) {i : ℕ} {next : Column → Bool → Bool} {st : State}
    → ((brk : Breaks) (rest : List Entry) (u : State) → u.column ≡ st.column → lay o brk d i Flat rest u ≡ lay o brk x i Flat rest u)
    → ((brk : BreakTraces) (rest : List Entry) → trace_at o brk d i Flat rest st ≡ noted_choice side (trace_at o brk x i Flat rest st))
    → ((ds : List Tree) → LeavesPending x ds → LeavesPending d ds) → (IsPlain d → ⊥) → IsTracedOnOneLine o x i next st
    → IsTracedOnOneLine o d i next st
flows_chosen {o} side {d} x {i} {next} {st} e t n q h = record {
  lies = record {
    bytes = h.lies.bytes;
    state = h.lies.state;
    done = λ brk k j a rest.
        ap (λ (m : ℕ). lay o brk d m Flat rest st) (only_like d i j q a) ∙ e brk rest st refl ∙ h.lies.done brk k i (inr refl) rest;
    within = h.lies.within;
    anew = λ brk k j a rest.
        ap (λ (m : ℕ). lay o brk d m Flat rest (in_trial st)) (only_like d i j q a) ∙ e brk rest (in_trial st) refl
        ∙ h.lies.anew brk k i (inr refl) rest;
    own = h.lies.own;
    leaves = n h.lies.own h.lies.leaves;
    pending = h.lies.pending;
    follows = h.lies.follows;
  };
  pieces = Alternative side ∷ h.pieces;
  traced = λ brk k j a rest.
      ap (λ (m : ℕ). trace_at o brk d m Flat rest st) (only_like d i j q a) ∙ t brk rest
      ∙ ap (noted_choice side) (h.traced brk k i (inr refl) rest);
  on_one_line = All-cons (IsOnOneLine o.width) (Alternative side) h.pieces tt h.on_one_line;
  plain = λ p. absurd (q p);
}

-- a tree that is laid as one of two by a test
flows_choice : {o : RenderOptions} {d : Tree} (y n : Tree) {i : ℕ} {next : Column → Bool → Bool} {st : State} (t : Bool)
    → ((brk : Breaks) (rest : List Entry) (u : State) → u.column ≡ st.column
    → lay o brk d i Flat rest u ≡ (if t then lay o brk y i Flat rest u else lay o brk n i Flat rest u))
    → ((brk : BreakTraces) (rest : List Entry)
    → trace_at o brk d i Flat rest st ≡ (if t then noted_choice First (trace_at o brk y i Flat rest st)
    else noted_choice Second (trace_at o brk n i Flat rest st)))
    → ((ds : List Tree) → LeavesPending y ds ⊎ LeavesPending n ds → LeavesPending d ds) → (IsPlain d → ⊥)
    → answer_of (if t then look o.width y i Flat st.column (some_pending st.pending) else look o.width n i Flat st.column
    (some_pending st.pending)) next ≡ true → (Fits o y i next st → IsTracedOnOneLine o y i next st)
    → (Fits o n i next st → IsTracedOnOneLine o n i next st) → IsTracedOnOneLine o d i next st
flows_choice y n true e t l q h f g = flows_chosen First y e t (λ ds k. l ds (inl k)) q (f h)
flows_choice y n false e t l q h f g = flows_chosen Second n e t (λ ds k. l ds (inr k)) q (g h)

-- ---- texts, and two trees in a row

-- the flag stays where the text ends within the width
inked : (o : RenderOptions) (w : ℕ) (st : State) → nat_le (commit w st.column).position o.width ≡ true → (t : Bool)
    → (record st { column = commit w st.column; within = t && nat_le (commit w st.column).position o.width })
    ≡ (record st { column = commit w st.column; within = t })
inked o w st h t =
    ap (λ (x : Bool). record st { column = commit w st.column; within = x }) (ap (λ (x : Bool). t && x) h ∙ and-true t)

text_flows : {o : RenderOptions} {d : Tree} {i : ℕ} (w : ℕ) (s : List ℕ) {next : Column → Bool → Bool} {st : State}
    → ((brk : Breaks) (j : ℕ) (rest : List Entry) (u : State) → lay o brk d j Flat rest u ≡ lay_text o w s u)
    → ((brk : BreakTraces) (j : ℕ) (rest : List Entry) → trace_at o brk d j Flat rest st ≡ trace_text o w s st) → LeavesPending d []
    → answer_of (look_text o.width w s st.column (some_pending st.pending)) next ≡ true → IsTracedOnOneLine o d i next st
text_flows w [] {next} {st} e t n h =
    flows_by st (λ brk k j a rest. e brk j rest st) (λ brk k j a rest. e brk j rest (in_trial st))
    (λ brk k j a rest. t brk j rest) refl refl n h
text_flows {o} w (b ∷ bs) {next} {st} e t n h =
    let parts = only_on (nat_le (commit w st.column).position o.width) (commit w st.column) (some_pending st.pending) next h in
    let bytes = spaces (gap st.column) ++ (b ∷ bs) in
    let text = traces.Text (b ∷ bs) (commit w st.column).position in
    record {
      lies = record {
        bytes = bytes;
        state = record st { column = commit w st.column };
        done = λ brk k j a rest. e brk j rest st ∙ ap (Done bytes) (inked o w st parts.0 st.within);
        within = refl;
        anew = λ brk k j a rest. e brk j rest (in_trial st) ∙ ap (Done bytes) (inked o w st parts.0 true);
        own = [];
        leaves = n;
        pending = sym (append-nil st.pending);
        follows = parts.1;
      };
      pieces = Gap st.column.padding ∷ text ∷ [];
      traced = λ brk k j a rest. t brk j rest ∙ ap (Traced (Gap st.column.padding ∷ text ∷ [])) (inked o w st parts.0 st.within);
      on_one_line =
          All-cons (IsOnOneLine o.width) (Gap st.column.padding) (text ∷ []) tt
          (All-cons (IsOnOneLine o.width) text [] (leb-true _ _ parts.0) (All-nil (IsOnOneLine o.width)));
      plain = λ k.
          All-cons IsNoAlternative (Gap st.column.padding) (text ∷ []) tt
          (All-cons IsNoAlternative text [] tt (All-nil IsNoAlternative));
    }

like_first : (l r : Tree) (i j : ℕ) → IsLike (Append l r) i j → IsLike l i j
like_first l r i j (inl p) = inl p.0
like_first l r i j (inr e) = inr e

like_second : (l r : Tree) (i j : ℕ) → IsLike (Append l r) i j → IsLike r i j
like_second l r i j (inl p) = inl p.1
like_second l r i j (inr e) = inr e

-- one tree after another
append_flows : (o : RenderOptions) (l r : Tree) (i : ℕ) (mid next : Column → Bool → Bool) (st : State)
    → (x : IsTracedOnOneLine o l i mid st) → IsTracedOnOneLine o r i next x.lies.state → IsTracedOnOneLine o (Append l r) i next st
unfolding lay trace_at
append_flows o l r i mid next st x y = record {
  lies = record {
    bytes = x.lies.bytes ++ y.lies.bytes;
    state = y.lies.state;
    done = λ brk k j a rest.
        ap (λ (z : Outcome). and_then z (λ u. lay o brk r j Flat rest u)) (x.lies.done brk k j (like_first l r i j a) (entry j r ∷ rest))
        ∙ ap (after_bytes x.lies.bytes) (y.lies.done brk k j (like_second l r i j a) rest);
    within = y.lies.within ∙ x.lies.within;
    anew = λ brk k j a rest.
        ap (λ (z : Outcome). and_then z (λ u. lay o brk r j Flat rest u)) (x.lies.anew brk k j (like_first l r i j a) (entry j r ∷ rest))
        ∙ ap (after_bytes x.lies.bytes) (y.lies.anew brk k j (like_second l r i j a) rest);
    own = x.lies.own ++ y.lies.own;
    leaves = (x.lies.own, y.lies.own, x.lies.leaves, y.lies.leaves, refl);
    pending = y.lies.pending ∙ ap (λ (z : List Tree). z ++ y.lies.own) x.lies.pending
        ∙ append_assoc st.pending x.lies.own y.lies.own;
    follows = y.lies.follows;
  };
  pieces = x.pieces ++ y.pieces;
  traced = λ brk k j a rest.
      ap (λ (z : Tracing). traced_then z (λ u. trace_at o brk r j Flat rest u)) (x.traced brk k j (like_first l r i j a) (entry j r ∷ rest))
      ∙ ap (after_pieces x.pieces) (y.traced brk k j (like_second l r i j a) rest);
  on_one_line = All-append (IsOnOneLine o.width) x.pieces y.pieces x.on_one_line y.on_one_line;
  plain = λ k. All-append IsNoAlternative x.pieces y.pieces (x.plain k.0) (y.plain k.1);
}

-- ---- any tree

flows : (o : RenderOptions) (d : Tree) (i : ℕ) (next : Column → Bool → Bool) (st : State) → Fits o d i next st
    → IsTracedOnOneLine o d i next st
unfolding lay trace_at
flows o Nil i next st h = flows_by st (λ brk k j a rest. refl) (λ brk k j a rest. refl) (λ brk k j a rest. refl) refl refl refl h
flows o (Text s) i next st h = text_flows (length s) s (λ brk j rest u. refl) (λ brk j rest. refl) refl h
flows o (TextWithLen w s) i next st h = text_flows w s (λ brk j rest u. refl) (λ brk j rest. refl) refl h
flows o WeakSpace i next st h =
    flows_by (record st { column = blank st.column }) (λ brk k j a rest. refl) (λ brk k j a rest. refl)
    (λ brk k j a rest. refl) refl refl refl h
flows o WeakLine i next st h =
    let taken = only_on (st.column.fresh && not (some_pending st.pending)) st.column (some_pending st.pending) next h in
    let parts = and_parts _ _ taken.0 in
    let none = none_pending st.pending parts.1 in
    flows_by st (λ brk k j a rest. k j rest st none parts.0) (λ brk k j a rest. k j rest (in_trial st) none parts.0)
    (λ brk k j a rest. k j rest st none parts.0) refl refl refl taken.1
flows o (Append l r) i next st h =
    let x = flows o l i (λ e q. answer_of (look o.width r i Flat e q) next) st
    (sym (answer-then (look o.width l i Flat st.column (some_pending st.pending)) (λ e q. look o.width r i Flat e q) next) ∙ h) in
    append_flows o l r i (λ e q. answer_of (look o.width r i Flat e q) next) next st x (flows o r i next x.lies.state x.lies.follows)
flows o (LineSuffix d) i next st h = record {
  lies = record {
    bytes = [];
    state = record st { pending = st.pending ++ d ∷ [] };
    done = λ brk k j a rest. refl;
    within = refl;
    anew = λ brk k j a rest. refl;
    own = d ∷ [];
    leaves = refl;
    pending = refl;
    follows = rw (some_pending-more st.pending d) h;
  };
  pieces = [];
  traced = λ brk k j a rest. refl;
  on_one_line = All-nil (IsOnOneLine o.width);
  plain = λ k. All-nil IsNoAlternative;
}
flows o (Indented how d) i next st h =
    flows_as d (λ j. indent_by how j st.column) (λ brk j rest u e. ap (λ (c : Column). lay o brk d (indent_by how j c) Flat rest u) e)
    (λ brk j rest. refl) (λ ds k. k) (λ k. k) (flows o d (indent_by how i st.column) next st h)
flows o (Flatten d) i next st h =
    flows_as d (λ j. j) (λ brk j rest u e. refl) (λ brk j rest. refl) (λ ds k. k) (λ k. k) (flows o d i next st h)
flows o (BreakOrFlat b f) i next st h =
    flows_as f (λ j. j) (λ brk j rest u e. refl) (λ brk j rest. refl) (λ ds k. k) (λ k. k.1) (flows o f i next st h)
flows o (Group d) i next st h =
    flows_as d (λ j. j) (λ brk j rest u e. refl) (λ brk j rest. refl) (λ ds k. k) (λ k. k) (flows o d i next st h)
flows o (Union l r) i next st h =
    flows_as l (λ j. j) (λ brk j rest u e. refl) (λ brk j rest. refl) (λ ds k. k) (λ k. k.0) (flows o l i next st h)
flows o (PartialUnion l r) i next st h =
    flows_as l (λ j. j) (λ brk j rest u e. refl) (λ brk j rest. refl) (λ ds k. k) (λ k. k.0) (flows o l i next st h)
flows o (Chosen test y n) i next st h =
    flows_choice y n (choice_holds test (prospective st.column) i)
    (λ brk rest u e. ap (λ (c : Column). if choice_holds test (prospective c) i then lay o brk y i Flat rest u
    else lay o brk n i Flat rest u) e) (λ brk rest. refl) (λ ds k. k) (λ k. k) h (flows o y i next st) (flows o n i next st)
-- the probe of a flat line answers no to every other node
flows o _ i next st h = absurd (cc)

pub one_line : (o : RenderOptions) (d : Tree) (i : ℕ) (rest : List Entry) (st : State) → probe o d i Flat rest st ≡ true
    → LiesOnOneLine o d i (λ c p. rest_fits o.width rest c p) st
one_line o d i rest st h = (flows o d i (λ c p. rest_fits o.width rest c p) st h).lies

pub traced_on_one_line : (o : RenderOptions) (d : Tree) (i : ℕ) (rest : List Entry) (st : State) → probe o d i Flat rest st ≡ true
    → IsTracedOnOneLine o d i (λ c p. rest_fits o.width rest c p) st
traced_on_one_line o d i rest st h = flows o d i (λ c p. rest_fits o.width rest c p) st h

-- ---- groups

pub group_is_flat : (o : RenderOptions) (brk : Breaks) (d : Tree) (i : ℕ) (m : Mode) (rest : List Entry) (st : State)
    → probe o d i Flat rest st ≡ true → lay o brk (Group d) i m rest st ≡ lay o brk d i Flat rest st
unfolding lay
group_is_flat o brk d i Break rest st h = ap (λ (t : Bool). lay o brk d i (if t then Flat else Break) rest st) h
group_is_flat o brk d i Flat rest st h = refl

-- the trace of a group in Break whose probe answers yes: its first alternative, and then its document in Flat
group_chooses : (o : RenderOptions) (brk : BreakTraces) (d : Tree) (i : ℕ) (rest : List Entry) (st : State)
    → probe o d i Flat rest st ≡ true → trace_at o brk (Group d) i Break rest st ≡ noted_choice First (trace_at o brk d i Flat rest st)
unfolding trace_at
group_chooses o brk d i rest st h =
    ap (λ (t : Bool). if t then noted_choice First (trace_at o brk d i Flat rest st) else noted_choice Second
    (trace_at o brk d i Break rest st)) h

pub traced_as_flat_group : (o : RenderOptions) (d : Tree) (i : ℕ) (rest : List Entry) (st : State) → probe o d i Flat rest st ≡ true
    → IsTracedAsFlatGroup o d i rest st
traced_as_flat_group o d i rest st h =
    let x = traced_on_one_line o d i rest st h in
    record {
      document = x;
      traced = λ brk k. group_chooses o brk d i rest st h
          ∙ ap (noted_choice First) (x.traced brk k i (inr refl) rest);
    }

-- ---- weak lines that are skipped

-- a break runs `plain_break` where nothing is pending, and that skips a fresh weak line
skips : (o : RenderOptions) (brk : Breaks) (i : ℕ) (rest : List Entry) (st : State) → st.pending ≡ [] → st.column.fresh ≡ true
    → break_with o brk st.pending WeakLine i Flat rest st ≡ Done [] st
skips o brk i rest st e f =
    ap (λ (ps : List Tree). break_with o brk ps WeakLine i Flat rest st) e
    ∙ ap (λ (t : Bool). if t then Done [] st else lay_ending o o.indentation_policy (next_indent i rest) st) f

pub breaks_skip : (o : RenderOptions) (n : ℕ) → SkipsWeakLines (breaks o (suc n))
unfolding breaks
breaks_skip o n = λ i rest st e f. skips o (breaks o n) i rest st e f

pub settle_skips : (o : RenderOptions) → SkipsWeakLines (settle o)
unfolding settle
settle_skips o = λ i rest st e f. breaks_skip o (queued st.pending) i rest st e f

-- the same of the trace of a break
passes : (o : RenderOptions) (brk : BreakTraces) (i : ℕ) (rest : List Entry) (st : State) → st.pending ≡ [] → st.column.fresh ≡ true
    → trace_break_with o brk st.pending WeakLine i Flat rest st ≡ Traced [] st
passes o brk i rest st e f =
    ap (λ (ps : List Tree). trace_break_with o brk ps WeakLine i Flat rest st) e
    ∙ ap (λ (t : Bool). if t then Traced [] st else trace_ending o.indentation_policy (next_indent i rest) st) f

pub trace_breaks_pass : (o : RenderOptions) (n : ℕ) → PassesWeakLines (trace_breaks o (suc n))
unfolding trace_breaks
trace_breaks_pass o n = λ i rest st e f. passes o (trace_breaks o n) i rest st e f
