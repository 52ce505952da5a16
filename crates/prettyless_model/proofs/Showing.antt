-- Whole layouts show what their documents show. Before each text is a gap; part of it may be written already, and part of it
-- may be spaces that wait. Late items wait with the documents that are pending.
use Rattle.std.proofs.Common.{◌≡◌, ℕ, zero, suc, List, [], ◌∷◌, ◌++◌, ◌+◌, ◌<◌, length, length-append, arith}
use Rattle.std.proofs.Common.{map, refl, subst, ap, sym}
use Rattle.std.proofs.Common.{◌∙◌, append_assoc, append-nil, ◌⊎◌, inl, inr, Bool, true, false, ◌&&◌, nat_le}
use Rattle.std.proofs.Common.{if◌then◌else◌}
use Rattle.std.specs.Prelude.{⊤}
use Rattle.prettyless_model.specs.Options.{ending}
use Rattle.prettyless_model.specs.Spaces.{spaces}
use Rattle.prettyless_model.specs.declared.options.RenderOptions.{RenderOptions}
use Rattle.prettyless_model.specs.declared.options.LineEnding.{LineEnding}
use Rattle.prettyless_model.specs.declared.options.LineEnding.TheVariants.{Lf, Crlf}
use Rattle.prettyless_model.specs.declared.options.IndentationPolicy.{IndentationPolicy}
use Rattle.prettyless_model.specs.declared.options.IndentationPolicy.TheVariants.{Eager, Deferred}
use Rattle.prettyless_model.specs.declared.column.Column.{Column}
use Rattle.prettyless_model.specs.declared.metrics.Metrics.{Metrics}
use Rattle.prettyless_model.specs.declared.mode.Mode.{Mode}
use Rattle.prettyless_model.specs.declared.mode.Mode.TheVariants.{Break, Flat}
use Rattle.prettyless_model.specs.Tree.{Tree, Nil, Fail, Text, TextWithLen, MultilineText, WeakSpace, HardLine, WeakLine, Append}
use Rattle.prettyless_model.specs.Tree.{LineSuffix, Indented, ExpandParent, Flatten, BreakOrFlat, Group, Union, PartialUnion, Chosen, size}
use Rattle.prettyless_model.specs.Column.{start, gap, blank, commit, deferred, indented, prospective}
use Rattle.prettyless_model.specs.Metrics.{metrics}
use Rattle.prettyless_model.specs.Indent.{indent_by}
use Rattle.prettyless_model.specs.Choice.{choice_holds}
use Rattle.prettyless_model.specs.Look.{by_mode}
use Rattle.prettyless_model.specs.Layout.{State, Outcome, Done, Failed, Entry, Breaks, Whole, after_bytes, and_then, lay, lay_each}
use Rattle.prettyless_model.specs.Layout.{lay_text, lay_payload, lay_ending, payload_fits, after_payload, probe, in_trial, flushed}
use Rattle.prettyless_model.specs.Layout.{is_suppressed, plain_break, next_indent, entry, entries, break_with, end_with, breaks, finish}
use Rattle.prettyless_model.specs.Layout.{layout, layout_by, initial, bytes_of}
use Rattle.prettyless_model.specs.Shows.{Reach, NoGap, SameLine, AnyLine, Least, Nothing, Spacing, LineEnd, further, more as more_of}
use Rattle.prettyless_model.specs.Shows.{EndsLine, IsBlank, Item, Shown, Gap, Mark, Late, spaced, ended, NoneIsLate, Implies, TextShows}
use Rattle.prettyless_model.specs.Shows.{PayloadShows, shows, Place, Before, After, with_gap, at_start, after_text, after_line, line_start}
use Rattle.prettyless_model.specs.Shows.{same_line, late_place, MayEnd, MayStay, ShowsThen, ShowsFrom, AreShown}
use Rattle.prettyless_model.proofs.Gaps.{end_after, no_end_in, spaces_end_none, ends_or_not, blank_both, OnLine, Stands, stands_blank}
use Rattle.prettyless_model.proofs.Gaps.{spaced_stands, blank_stands, ended_at, ended_stands, fresh_ended, gap_before, gap_on_line}
use Rattle.prettyless_model.proofs.Gaps.{IsCommitted, not_fresh, commit_committed, committed_stands, same_line_stands, late_stands}
use Rattle.prettyless_model.proofs.Gaps.{end_stands}
use Rattle.prettyless_model.proofs.Implied.{end_blank, implied_from, implies_before}
use Rattle.prettyless_model.proofs.Ink.{ink-spaces, ink-ending}
use Rattle.prettyless_model.proofs.Outcomes.{holds-either, holds-accept}

-- ---- items that wait

-- the documents show these items, one after the other, and none of them is late
abbrev pub AllShow : List Tree → List Item → Type 0
AllShow [] ws = ws ≡ []
AllShow (d ∷ ds) ws = (first : List Item) × (rest : List Item) × shows d first × NoneIsLate first × AllShow ds rest × (ws
    ≡ first ++ rest)

none_late_both : (xs ys : List Item) → NoneIsLate xs → NoneIsLate ys → NoneIsLate (xs ++ ys)
none_late_both [] ys h k = k
none_late_both (Shown s ∷ xs) ys h k = none_late_both xs ys h k
none_late_both (Gap r l ∷ xs) ys h k = none_late_both xs ys h k
none_late_both (Mark s ∷ xs) ys h k = none_late_both xs ys h k
none_late_both (Late i ∷ xs) ys h k = absurd h

none_waits_late : (ds : List Tree) (ws : List Item) → AllShow ds ws → NoneIsLate ws
none_waits_late [] ws h = subst NoneIsLate (sym h) tt
none_waits_late (d ∷ ds) ws h = subst NoneIsLate (sym h.5) (none_late_both h.0 h.1 h.3 (none_waits_late ds h.1 h.4))

-- one more document, after those that are pending
one_more_shows : (ds : List Tree) (ws : List Item) (d : Tree) (inner : List Item) → AllShow ds ws → shows d inner → NoneIsLate inner
    → AllShow (ds ++ d ∷ []) (ws ++ inner)
one_more_shows [] ws d inner h k n = (inner, [], k, n, refl, ap (λ (items : List Item). items ++ inner) h ∙ sym (append-nil inner))
one_more_shows (e ∷ ds) ws d inner h k n = (
  h.0,
  h.1 ++ inner,
  h.2,
  h.3,
  one_more_shows ds h.1 d inner h.4 k n,
  ap (λ (items : List Item). items ++ inner) h.5
      ∙ append_assoc h.0 h.1 inner,
)

-- ---- the bytes of an outcome

-- in the state such items wait, and such a gap stands at the place
pub record StandsIn (p : Place) (ws : List Item) (g : List ℕ) (st : State) : Type 0 where
  pub waits : AllShow st.pending ws
  pub stands : Stands p ws g st.column

-- what shows more items from the place q on, after its gap h, shows these and then those from the place p on, after g and b
pub record Joins (p : Place) (ws : List Item) (g b : List ℕ) (items : List Item) (q : Place) (vs : List Item)
    (h : List ℕ) : Type 0 where
  pub shows_all : (c : List ℕ) (later : List Item) → ShowsFrom q vs (h ++ c) later → ShowsFrom p ws (g ++ (b ++ c)) (items ++ later)

-- After a gap so far, where such items wait, the bytes of an outcome show the items, up to another gap so far, where others
-- wait: what shows more items from there on shows all of them from here on.
abbrev pub Follows : Place → List Item → List ℕ → List Item → Outcome → Type 0
Follows p ws g items (Done b st) =
    (q : Place) × (vs : List Item) × (h : List ℕ) × StandsIn q vs h st × Joins p ws g b items q vs h
Follows p ws g items (Failed b) = ⊤

nothing_follows : {p : Place} {ws : List Item} {g : List ℕ} {items : List Item} {st : State} → items ≡ [] → StandsIn p ws g st
    → Follows p ws g items (Done [] st)
nothing_follows {p} {ws} {g} e s = (p, ws, g, s, record { shows_all = λ c later k. rw e k })

-- spaces that are written
spaced_follows : (p : Place) (ws : List Item) (g b : List ℕ) {items : List Item} (st : State) (e : Column) (within : Bool)
    → items ≡ spaced ∷ [] → AllShow st.pending ws → Stands (with_gap SameLine Spacing p) ws (g ++ b) e
    → Follows p ws g items (Done b (record st { column = e; within = within }))
spaced_follows p [] g b st e within same w s = (
  with_gap SameLine Spacing p,
  [],
  g ++ b,
  record { waits = w; stands = s },
  record {
    shows_all = λ c later k. rw same (subst (λ (x : List ℕ). ShowsFrom (with_gap SameLine Spacing p) [] x later)
        (append_assoc g b c) k);
  },
)
spaced_follows p (v ∷ vs) g b st e within same w s = (
  with_gap SameLine Spacing p,
  v ∷ vs,
  g ++ b,
  record { waits = w; stands = s },
  record {
    shows_all = λ c later k. rw same
        (subst (λ (x : List ℕ). ShowsFrom (with_gap SameLine Spacing p) (v ∷ vs) x later) (append_assoc g b c) k);
  },
)

-- a line end, where nothing waits
ended_follows : (p : Place) (g b : List ℕ) (st : State) (e : Column) → AllShow st.pending [] → Stands (with_gap AnyLine LineEnd p) []
    (g ++ b) e → Follows p [] g (ended ∷ []) (Done b (record st { column = e }))
ended_follows p g b st e w s = (
  with_gap AnyLine LineEnd p,
  [],
  g ++ b,
  record { waits = w; stands = s },
  record { shows_all = λ c later k. subst (λ (x : List ℕ). ShowsFrom (with_gap AnyLine LineEnd p) [] x later) (append_assoc g b c) k },
)

regroup : (g n s c : List ℕ) → g ++ ((n ++ s) ++ c) ≡ (g ++ n) ++ (s ++ c)
regroup g n s c = ap (λ (x : List ℕ). g ++ x) (append_assoc n s c) ∙ sym (append_assoc g n (s ++ c))

text_from : (p : Place) (ws : List Item) (g s c : List ℕ) (x : Column) (later : List Item) → Stands p ws g x
    → ShowsFrom after_text ws c later → ShowsFrom p ws (g ++ ((spaces (gap x) ++ s) ++ c)) (Shown s ∷ later)
text_from p [] g s c x later h k = (g ++ spaces (gap x), c, gap_before p [] g x h, regroup g (spaces (gap x)) s c, k)
text_from p (w ∷ ws) g s c x later h k = inl (g ++ spaces (gap x), c, gap_on_line p w ws g x h, regroup g (spaces (gap x)) s c, k)

empty_on_line : (ws : List Item) → OnLine ws []
empty_on_line [] = tt
empty_on_line (w ∷ ws) = λ ends. ends

-- a text after its gap
shown_follows : {p : Place} {ws : List Item} {g : List ℕ} (s : List ℕ) {items : List Item} {st : State} (e : Column) (within : Bool)
    → items ≡ Shown s ∷ [] → IsCommitted e → StandsIn p ws g st
    → Follows p ws g items (Done (spaces (gap st.column) ++ s) (record st { column = e; within = within }))
shown_follows {p} {ws} {g} s {items} {st} e within same k h = (
  after_text,
  ws,
  [],
  record {
    waits = h.waits;
    stands = (refl, empty_on_line ws, λ fresh. not_fresh k fresh, (refl, k.indent, k.padding), tt);
  },
  record { shows_all = λ c later m. rw same (text_from p ws g s c st.column later h.stands m) },
)

longer : (g n bs : List ℕ) (b : ℕ) (k : ℕ) → 0 < length (g ++ (n ++ (b ∷ bs))) + k
longer g n bs b k = omega (arith, length-append g (n ++ (b ∷ bs)), length-append n (b ∷ bs))

no_end_in_text : (n : ℕ) (s : List ℕ) → (EndsLine s → ⊥) → EndsLine (spaces n ++ s) → ⊥
no_end_in_text n s h e = no_end_in (spaces n) s (spaces_end_none n) h e

text_follows : (o : RenderOptions) (w : ℕ) (s : List ℕ) (items : List Item) {st : State} {p : Place} {ws : List Item} {g : List ℕ}
    → TextShows s items → StandsIn p ws g st → Follows p ws g items (lay_text o w s st)
text_follows o w [] items h s = nothing_follows h s
text_follows o w (b ∷ bs) items {st} (inl e) s =
    shown_follows (b ∷ bs) (commit w st.column) (st.within && nat_le (commit w st.column).position o.width) e
    (commit_committed w st.column) s
text_follows o w (b ∷ bs) items {st} {p} {ws} {g} (inr h) s =
    let new = spaces (gap st.column) ++ (b ∷ bs) in
    spaced_follows p ws g new st (commit w st.column) (st.within && nat_le (commit w st.column).position o.width) h.2 s.waits
    (spaced_stands p ws g new st.column (commit w st.column) s.stands
    (blank_both (spaces (gap st.column)) (b ∷ bs) (ink-spaces (gap st.column)) h.0)
    (no_end_in_text (gap st.column) (b ∷ bs) h.1) refl (longer g (spaces (gap st.column)) bs b 0))

-- a payload shows itself where its parts at both ends hold something
payload_column : (m : Metrics) → m.last_nonempty ≡ true → after_payload m ≡ commit m.last_width start
payload_column m e = ap (λ (x : Bool). if x then commit m.last_width start else start) e

payload_follows : (o : RenderOptions) (m : Metrics) (s : List ℕ)
    (items : List Item) {st : State} {p : Place} {ws : List Item} {g : List ℕ}
    → PayloadShows m s items → StandsIn p ws g st → Follows p ws g items (lay_payload o m s st)
payload_follows o m s items {st} {p} {ws} {g} h k =
    let column = payload_column m h.2 in
    subst (λ (x : Bool). Follows p ws g items
    (Done ((if x then spaces (gap st.column) else []) ++ s)
    (record st { column = after_payload m; within = st.within && payload_fits o m st.column }))) (sym h.1)
    (shown_follows s (after_payload m) (st.within && payload_fits o m st.column) h.0
    (rw column (commit_committed m.last_width start)) k)

-- ---- a break with nothing pending

suppressed_fresh : (d : Tree) (c : Column) → is_suppressed d c ≡ true → c.fresh ≡ true
suppressed_fresh WeakLine c e = e
suppressed_fresh _ c e = absurd (cc)

ending_ends : (e : LineEnding) (n : List ℕ) → EndsLine (ending e ++ n)
ending_ends Lf n = inl refl
ending_ends Crlf n = inr (inl refl)

ending_blank : (o : RenderOptions) (k : ℕ) → IsBlank (ending o.line_ending ++ spaces k)
ending_blank o k = blank_both (ending o.line_ending) (spaces k) (ink-ending o.line_ending) (ink-spaces k)

ending_follows : (o : RenderOptions) (i : IndentationPolicy) (k : ℕ) (st : State) (p : Place) (g : List ℕ) → AllShow st.pending []
    → IsBlank g → Follows p [] g (ended ∷ []) (lay_ending o i k st)
ending_follows o Eager k st p g n s =
    let new = ending o.line_ending ++ spaces k in
    ended_follows p g new st (indented k) n
    (ended_stands p (g ++ new) (indented k) (blank_both g new s (ending_blank o k))
    (ended_at p (g ++ new) (end_after g new (ending_ends o.line_ending (spaces k)))))
ending_follows o Deferred k st p g n s =
    let new = ending o.line_ending in
    let ends : EndsLine new = rw (append-nil new) at (ending_ends o.line_ending []) in
    ended_follows p g new st (deferred k) n
    (ended_stands p (g ++ new) (deferred k) (blank_both g new s (ink-ending o.line_ending)) (ended_at p (g ++ new) (end_after g new ends)))

either_follows : (p : Place) (ws : List Item) (g : List ℕ) (items : List Item) (t : Bool) (x y : Outcome)
    → (t ≡ true → Follows p ws g items x) → Follows p ws g items y → Follows p ws g items (if t then x else y)
either_follows p ws g items true x y h k = h refl
either_follows p ws g items false x y h k = k

plain_follows : (o : RenderOptions) (d : Tree) (i : ℕ) (rest : List Entry) {st : State} {p : Place} {g : List ℕ} → StandsIn p [] g st
    → Follows p [] g (ended ∷ []) (plain_break o d i rest st)
plain_follows o d i rest {st} {p} {g} s =
    let blank_gap = stands_blank p [] g st.column s.stands in
    either_follows p [] g (ended ∷ []) (is_suppressed d st.column) (Done [] st) (lay_ending o o.indentation_policy
    (next_indent i rest) st)
    (λ e. ended_follows p g [] st st.column s.waits
    (subst (λ (x : List ℕ). Stands (with_gap AnyLine LineEnd p) [] x st.column) (sym (append-nil g))
    (ended_stands p g st.column blank_gap (fresh_ended p [] g st.column (suppressed_fresh d st.column e) s.stands))))
    (ending_follows o o.indentation_policy (next_indent i rest) st p g s.waits blank_gap)

-- ---- one outcome after another

follows-after : {p : Place} {ws : List Item} {g b : List ℕ} {before : List Item} {q : Place} {vs : List Item} {h : List ℕ}
    (later : List Item) (o : Outcome) → Joins p ws g b before q vs h → Follows q vs h later o
    → Follows p ws g (before ++ later) (after_bytes b o)
follows-after {p} {ws} {g} {b} {before} later (Done a st) k f = (
  f.0,
  f.1,
  f.2,
  f.3,
  record {
    shows_all = λ c more s. rw (append_assoc before later more, append_assoc b a c)
        (k.shows_all (a ++ c) (later ++ more) (f.4.shows_all c more s));
  },
)
follows-after later (Failed a) k f = tt

-- what holds wherever items wait and a gap stands
abbrev pub FollowsAlways : List Item → (State → Outcome) → Type 0
FollowsAlways later f =
    (q : Place) (vs : List Item) (h : List ℕ) (u : State) → StandsIn q vs h u → Follows q vs h later (f u)

follows-then : (p : Place) (ws : List Item) (g : List ℕ) (before later : List Item) (o : Outcome) (f : State → Outcome)
    → Follows p ws g before o → FollowsAlways later f → Follows p ws g (before ++ later) (and_then o f)
follows-then p ws g before later (Done b st) f h k = follows-after later (f st) h.4 (k h.0 h.1 h.2 st h.3)
follows-then p ws g before later (Failed b) f h k = tt

-- bytes that belong to the gap, in front of an outcome
gap_then : (p : Place) (ws : List Item) (g n : List ℕ) (items : List Item) (o : Outcome) → Follows p ws (g ++ n) items o
    → Follows p ws g items (after_bytes n o)
gap_then p ws g n items (Done b st) f = (
  f.0,
  f.1,
  f.2,
  f.3,
  record { shows_all = λ c more s. rw (append_assoc n b c, sym (append_assoc g n (b ++ c))) (f.4.shows_all c more s) },
)
gap_then p ws g n items (Failed b) f = tt

-- what implies more
implied_follows : (p : Place) (ws : List Item) (g : List ℕ) (xs items : List Item) (o : Outcome) → Implies xs items
    → Follows p ws g xs o
    → Follows p ws g items o
implied_follows p ws g xs items (Done b st) i f = (
  f.0,
  f.1,
  f.2,
  f.3,
  record {
    shows_all = λ c more s. implied_from p ws (g ++ (b ++ c)) (xs ++ more) (items ++ more) (implies_before more items xs i)
        (f.4.shows_all c more s);
  },
)
implied_follows p ws g xs items (Failed b) i f = tt

-- ---- a document that is put off

-- items that wait one after the other wait together
wait_together : (inner : List Item) (p : Place) (w : Item) (ws : List Item) (b : List ℕ) (more : List Item) → same_line p ≡ p
    → ShowsFrom p (w ∷ (ws ++ inner)) b more → ShowsFrom p (w ∷ ws) b (map Late inner ++ more)
wait_together [] p w ws b more e h = subst (λ (vs : List Item). ShowsFrom p (w ∷ vs) b more) (append-nil ws) h
wait_together (i ∷ inner) p w ws b more e h =
    inl (subst (λ (q : Place). ShowsFrom q (w ∷ (ws ++ i ∷ [])) b (map Late inner ++ more)) (sym e)
    (wait_together inner p w (ws ++ i ∷ []) b more e
    (subst (λ (vs : List Item). ShowsFrom p (w ∷ vs) b more) (sym (append_assoc ws (i ∷ []) inner)) h)))

same_line_twice : (p : Place) → same_line (same_line p) ≡ same_line p
same_line_twice (Before NoGap) = refl
same_line_twice (Before SameLine) = refl
same_line_twice (Before AnyLine) = refl
same_line_twice (After NoGap l) = refl
same_line_twice (After SameLine l) = refl
same_line_twice (After AnyLine l) = refl

may_stay_at : (p : Place) (ws : List Item) (g : List ℕ) (c : Column) → Stands p ws g c → (EndsLine g → ⊥) → MayStay p
may_stay_at (Before r) ws g c h k = tt
may_stay_at (After r Nothing) ws g c h k = tt
may_stay_at (After r Spacing) ws g c h k = tt
may_stay_at (After r LineEnd) ws g c h k = k h.4

may_end_at : (p : Place) (ws : List Item) (g : List ℕ) (c : Column) → Stands p ws g c → EndsLine g → MayEnd p
may_end_at (Before NoGap) ws g c h k = absurd (subst EndsLine h.2.0 k)
may_end_at (Before SameLine) ws g c h k = absurd (h.2 k)
may_end_at (Before AnyLine) ws g c h k = tt
may_end_at (After NoGap l) ws g c h k = absurd (subst EndsLine h.3.0 k)
may_end_at (After SameLine l) ws g c h k = absurd (h.3 k)
may_end_at (After AnyLine l) ws g c h k = tt

waiting_stands : (p : Place) (i : Item) (is : List Item) (g : List ℕ) (c : Column) → Stands p [] g c → (EndsLine g → ⊥)
    → Stands p (i ∷ is) g c
waiting_stands (Before r) i is g c h k = (h.0, k, h.2)
waiting_stands (After r l) i is g c h k = (h.0, k, h.2, h.3, h.4)

put_off : (p : Place) (g : List ℕ) (i : Item) (is : List Item) (st : State) (pending : List Tree) → AllShow pending (i ∷ is)
    → Stands p [] g st.column → EndsLine g ⊎ (EndsLine g → ⊥)
    → Follows p [] g (map Late (i ∷ is)) (Done [] (record st { pending = pending }))
put_off p g i is st pending w s (inl ends) = (
  line_start,
  i ∷ is,
  [],
  record { waits = w; stands = (refl, (λ e. e), λ e. e) },
  record {
    shows_all = λ c later k. inr (
      may_end_at p [] g st.column s ends,
      (g, c, stands_blank p [] g st.column s, ends, refl, wait_together is line_start i [] c later refl k),
    );
  },
)
put_off p g i is st pending w s (inr stays) = (
  same_line p,
  i ∷ is,
  g,
  record { waits = w; stands = same_line_stands p i i is is g st.column (waiting_stands p i is g st.column s stays) },
  record {
    shows_all = λ c later k.
        inl (may_stay_at p [] g st.column s stays, wait_together is (same_line p) i [] (g ++ c) later (same_line_twice p) k);
  },
)

suffix_follows : {p : Place} (ws : List Item) {g : List ℕ} (inner : List Item) {items : List Item} (d : Tree) {st : State}
    → shows d inner
    → NoneIsLate inner → items ≡ map Late inner → StandsIn p ws g st
    → Follows p ws g items (Done [] (record st { pending = st.pending ++ d ∷ [] }))
suffix_follows [] [] d {st} h n e s =
    nothing_follows e (record { waits = one_more_shows st.pending [] d [] s.waits h n; stands = s.stands })
suffix_follows {p} [] {g} (i ∷ is) d {st} h n e s =
    rw e (put_off p g i is st (st.pending ++ d ∷ []) (one_more_shows st.pending [] d (i ∷ is) s.waits h n) s.stands (ends_or_not g))
suffix_follows (v ∷ vs) [] d {st} h n e s =
    nothing_follows e (record {
      waits = subst (λ (xs : List Item). AllShow (st.pending ++ d ∷ []) (v ∷ xs)) (append-nil vs)
          (one_more_shows st.pending (v ∷ vs) d [] s.waits h n);
      stands = s.stands;
    })
suffix_follows {p} (v ∷ vs) {g} (i ∷ is) d {st} h n e s = (
  same_line p,
  v ∷ (vs ++ i ∷ is),
  g,
  record {
    waits = one_more_shows st.pending (v ∷ vs) d (i ∷ is) s.waits h n;
    stands = same_line_stands p v v vs (vs ++ i ∷ is) g st.column s.stands;
  },
  record {
    shows_all = λ c later k. rw e (inl (wait_together is (same_line p) v (vs ++ i ∷ []) (g ++ c) later (same_line_twice p)
        (subst (λ (xs : List Item). ShowsFrom (same_line p) (v ∷ xs) (g ++ c) later) (sym (append_assoc vs (i ∷ []) is)) k)));
  },
)

-- ---- documents

-- breaks that end a line
pub record EndLines (brk : Breaks) : Type 0 where
  pub follows : (d : Tree) (i : ℕ) (m : Mode) (rest : List Entry) → FollowsAlways (ended ∷ []) (brk d i m rest)

pub lay_follows : (o : RenderOptions) {brk : Breaks} → EndLines brk → (d : Tree) (i : ℕ) (m : Mode) (rest : List Entry) {st : State}
    (items : List Item) {p : Place} {ws : List Item} {g : List ℕ} → shows d items → StandsIn p ws g st
    → Follows p ws g items (lay o brk d i m rest st)
unfolding lay
lay_follows o k Nil i m rest items h s = nothing_follows h s
lay_follows o k Fail i m rest items h s = tt
lay_follows o k (Text x) i m rest items h s = text_follows o (length x) x items h s
lay_follows o k (TextWithLen w x) i m rest items h s = text_follows o w x items h s
lay_follows o k (MultilineText x) i Break rest items h s = payload_follows o (metrics x) x items h s
lay_follows o k (MultilineText x) i Flat rest items h s = tt
lay_follows o k WeakSpace i m rest {st} items {p} {ws} {g} h s =
    spaced_follows p ws g [] st (blank st.column) st.within h s.waits
    (rw (append-nil g) (blank_stands p ws g st.column s.stands))
lay_follows o k HardLine i Break rest {st} items {p} {ws} {g} h s = rw h (k.follows HardLine i Break rest p ws g st s)
lay_follows o k HardLine i Flat rest items h s = tt
lay_follows o k WeakLine i m rest {st} items {p} {ws} {g} h s = rw h (k.follows WeakLine i m rest p ws g st s)
lay_follows o {brk} k (Append x y) i m rest {st} items {p} {ws} {g} h s =
    rw h.4 (follows-then p ws g h.0 h.1 (lay o brk x i m (entry i y ∷ rest) st) (λ z. lay o brk y i m rest z)
    (lay_follows o k x i m (entry i y ∷ rest) h.0 h.2 s)
    (λ q vs e z stands. lay_follows o k y i m rest h.1 h.3 stands))
lay_follows o k (LineSuffix d) i m rest items {p} {ws} h s = suffix_follows ws h.0 d h.1 h.2 h.3 s
lay_follows o k (Indented how d) i m rest {st} items h s = lay_follows o k d (indent_by how i st.column) m rest items h s
lay_follows o k ExpandParent i m rest items h s = nothing_follows h s
lay_follows o k (Flatten d) i m rest items h s = lay_follows o k d i Flat rest items h s
lay_follows o {brk} k (BreakOrFlat x y) i Break rest {st} items {p} {ws} {g} h s =
    implied_follows p ws g h.0 items (lay o brk x i Break rest st) h.4 (lay_follows o k x i Break rest h.0 h.2 s)
lay_follows o {brk} k (BreakOrFlat x y) i Flat rest {st} items {p} {ws} {g} h s =
    implied_follows p ws g h.1 items (lay o brk y i Flat rest st) h.5 (lay_follows o k y i Flat rest h.1 h.3 s)
lay_follows o k (Group d) i m rest {st} items h s =
    lay_follows o k d i (by_mode m (if probe o d i Flat rest st then Flat else Break) Flat) rest items h s
lay_follows o {brk} k (Union x y) i Break rest {st} items {p} {ws} {g} h s =
    holds-accept (Follows p ws g items) (λ b z was e. (e.0, e.1, e.2, record { waits = e.3.waits; stands = e.3.stands }, e.4)) o st.within
    (lay o brk x i Break rest (in_trial st)) (lay o brk y i Break rest st)
    (implied_follows p ws g h.0 items (lay o brk x i Break rest (in_trial st)) h.4
    (lay_follows o k x i Break rest h.0 h.2 (record { waits = s.waits; stands = s.stands })))
    (implied_follows p ws g h.1 items (lay o brk y i Break rest st) h.5 (lay_follows o k y i Break rest h.1 h.3 s))
lay_follows o {brk} k (Union x y) i Flat rest {st} items {p} {ws} {g} h s =
    implied_follows p ws g h.0 items (lay o brk x i Flat rest st) h.4 (lay_follows o k x i Flat rest h.0 h.2 s)
lay_follows o {brk} k (PartialUnion x y) i Break rest {st} items {p} {ws} {g} h s =
    holds-either (Follows p ws g items) (probe o x i Break rest st) (lay o brk x i Break rest st) (lay o brk y i Break rest st)
    (implied_follows p ws g h.0 items (lay o brk x i Break rest st) h.4 (lay_follows o k x i Break rest h.0 h.2 s))
    (implied_follows p ws g h.1 items (lay o brk y i Break rest st) h.5 (lay_follows o k y i Break rest h.1 h.3 s))
lay_follows o {brk} k (PartialUnion x y) i Flat rest {st} items {p} {ws} {g} h s =
    implied_follows p ws g h.0 items (lay o brk x i Flat rest st) h.4 (lay_follows o k x i Flat rest h.0 h.2 s)
lay_follows o {brk} k (Chosen test x y) i m rest {st} items {p} {ws} {g} h s =
    holds-either (Follows p ws g items) (choice_holds test (prospective st.column) i) (lay o brk x i m rest st) (lay o brk y i m rest st)
    (implied_follows p ws g h.0 items (lay o brk x i m rest st) h.4 (lay_follows o k x i m rest h.0 h.2 s))
    (implied_follows p ws g h.1 items (lay o brk y i m rest st) h.5 (lay_follows o k y i m rest h.1 h.3 s))

-- ---- a break with documents pending

-- where the gap is written and the pending documents are taken, the written gap stands
flushed_stands : (o : RenderOptions) (p : Place) (g : List ℕ) (st : State) → Stands p [] g st.column
    → StandsIn p [] (g ++ spaces (gap st.column)) (flushed o st)
flushed_stands o p g st s = record {
  waits = refl;
  stands = committed_stands p g st.column (commit 0 st.column) s (commit_committed 0 st.column);
}

-- the items that waited come on the line of the last text
flushed_late : (o : RenderOptions) (p : Place) (w : Item) (ws : List Item) (g : List ℕ) (st : State) → Stands p (w ∷ ws) g st.column
    → StandsIn (late_place p) [] (g ++ spaces (gap st.column)) (flushed o st)
flushed_late o p w ws g st s = record {
  waits = refl;
  stands = late_stands p w ws g st.column (commit 0 st.column) s (commit_committed 0 st.column);
}

each_follows : (o : RenderOptions) {brk : Breaks} → EndLines brk → (ds : List Tree) (i : ℕ) (m : Mode) (rest : List Entry)
    (items : List Item) → AllShow ds items → FollowsAlways items (λ u. lay_each o brk ds i m rest u)
unfolding lay_each
each_follows o k [] i m rest items h = λ q vs g u s. nothing_follows h s
each_follows o {brk} k (d ∷ ds) i m rest items h = λ q vs g u s.
    rw h.5 (follows-then q vs g h.0 h.1 (lay o brk d i m (entries i ds ++ rest) u) (λ z. lay_each o brk ds i m rest z)
    (lay_follows o k d i m (entries i ds ++ rest) h.0 h.2 s)
    (each_follows o k ds i m rest h.1 h.4))

-- after a text, items are shown one after the other, none of the first of which is late
shown_then : (later : List ℕ → Type 0) (more : List Item)
    → ((r : Reach) (l : Least) (rest : List ℕ) → ShowsFrom (After r l) [] rest more → later rest)
    → (ws : List Item) (r : Reach) (l : Least) (b : List ℕ) → NoneIsLate ws → ShowsFrom (After r l) [] b (ws ++ more)
    → ShowsThen (After r l) b ws later
shown_then later more k [] r l b n h = k r l b h
shown_then later more k (Shown s ∷ ws) r l b n h = (h.0, h.1, h.2, h.3, shown_then later more k ws NoGap Nothing h.1 n h.4)
shown_then later more k (Gap s m ∷ ws) r l b n h = shown_then later more k ws (further r s) (more_of l m) b n h
shown_then later more k (Mark s ∷ ws) r l b n (inl h) = inl (shown_then later more k ws r l b n h)
shown_then later more k (Mark s ∷ ws) r l b n (inr h) = inr (h.0, h.1, h.2, h.3, shown_then later more k ws NoGap Nothing h.1 n h.4)
shown_then later more k (Late i ∷ ws) r l b n h = absurd n

-- a line end after any gap
line_ended : (r : Reach) (l : Least) → with_gap AnyLine LineEnd (After r l) ≡ after_line
line_ended NoGap Nothing = refl
line_ended NoGap Spacing = refl
line_ended NoGap LineEnd = refl
line_ended SameLine Nothing = refl
line_ended SameLine Spacing = refl
line_ended SameLine LineEnd = refl
line_ended AnyLine Nothing = refl
line_ended AnyLine Spacing = refl
line_ended AnyLine LineEnd = refl

-- late items come after a text, or so it is taken
shown_late : (p : Place) (later : List ℕ → Type 0) (more : List Item)
    → ((r : Reach) (l : Least) (rest : List ℕ) → ShowsFrom (After r l) [] rest more → later rest)
    → (ws : List Item) (b : List ℕ) → NoneIsLate ws → ShowsFrom (late_place p) [] b (ws ++ more)
    → ShowsThen (late_place p) b ws later
shown_late (Before r) later more k ws b n h = shown_then later more k ws SameLine Nothing b n h
shown_late (After NoGap l) later more k ws b n h = shown_then later more k ws NoGap l b n h
shown_late (After SameLine l) later more k ws b n h = shown_then later more k ws SameLine l b n h
shown_late (After AnyLine l) later more k ws b n h = shown_then later more k ws SameLine Nothing b n h

-- what waits is shown, and its line ends
late_may_come : (p : Place) (w : Item) (ws : List Item) (b : List ℕ) (more : List Item) → NoneIsLate (w ∷ ws)
    → ShowsFrom (late_place p) [] b ((w ∷ ws) ++ (ended ∷ more)) → ShowsFrom p (w ∷ ws) b (ended ∷ more)
late_may_come p w ws b more n h =
    shown_late p (λ rest. ShowsFrom after_line [] rest more) (ended ∷ more)
    (λ r l rest k. subst (λ (q : Place). ShowsFrom q [] rest more) (line_ended r l) k) (w ∷ ws) b n h

regrouped : (g n b c : List ℕ) → (g ++ n) ++ (b ++ c) ≡ g ++ ((n ++ b) ++ c)
regrouped g n b c = append_assoc g n (b ++ c) ∙ ap (λ (x : List ℕ). g ++ x) (sym (append_assoc n b c))

-- a break that begins again after the pending documents
again_follows : (p : Place) (w : Item) (ws : List Item) (g n : List ℕ) (o : Outcome) → NoneIsLate (w ∷ ws)
    → Follows (late_place p) [] (g ++ n) ((w ∷ ws) ++ (ended ∷ [])) o → Follows p (w ∷ ws) g (ended ∷ []) (after_bytes n o)
again_follows p w ws g n (Done b st) none f = (
  f.0,
  f.1,
  f.2,
  f.3,
  record {
    shows_all = λ c more s. late_may_come p w ws (g ++ ((n ++ b) ++ c)) more none
        (subst (λ (x : List ℕ). ShowsFrom (late_place p) [] x ((w ∷ ws) ++ (ended ∷ more))) (regrouped g n b c)
        (subst (λ (xs : List Item). ShowsFrom (late_place p) [] ((g ++ n) ++ (b ++ c)) xs) (append_assoc (w ∷ ws) (ended ∷ []) more)
        (f.4.shows_all c more s)));
  },
)
again_follows p w ws g n (Failed b) none f = tt

break_follows : (o : RenderOptions) {brk : Breaks} → EndLines brk → (ps : List Tree) (d : Tree) (i : ℕ) (m : Mode) (rest : List Entry)
    {st : State} {p : Place} (ws : List Item) {g : List ℕ} → AllShow ps ws → StandsIn p ws g st
    → Follows p ws g (ended ∷ []) (break_with o brk ps d i m rest st)
break_follows o k [] d i m rest {st} {p} ws {g} h s =
    subst (λ (vs : List Item). Follows p vs g (ended ∷ []) (plain_break o d i rest st)) (sym h)
    (plain_follows o d i rest (subst (λ (vs : List Item). StandsIn p vs g st) h s))
break_follows o {brk} k (t ∷ ts) d i m rest {st} {p} [] {g} h s =
    gap_then p [] g (spaces (gap st.column)) (ended ∷ [])
    (and_then (lay_each o brk (t ∷ ts) i m (entry i d ∷ rest) (flushed o st)) (brk d i m rest))
    (follows-then p [] (g ++ spaces (gap st.column)) [] (ended ∷ []) (lay_each o brk (t ∷ ts) i m (entry i d ∷ rest) (flushed o st))
    (brk d i m rest)
    (each_follows o k (t ∷ ts) i m (entry i d ∷ rest) [] h p [] (g ++ spaces (gap st.column)) (flushed o st)
    (flushed_stands o p g st s.stands))
    (k.follows d i m rest))
break_follows o {brk} k (t ∷ ts) d i m rest {st} {p} (w ∷ ws) {g} h s =
    again_follows p w ws g (spaces (gap st.column))
    (and_then (lay_each o brk (t ∷ ts) i m (entry i d ∷ rest) (flushed o st)) (brk d i m rest))
    (none_waits_late (t ∷ ts) (w ∷ ws) h)
    (follows-then (late_place p) [] (g ++ spaces (gap st.column)) (w ∷ ws) (ended ∷ [])
    (lay_each o brk (t ∷ ts) i m (entry i d ∷ rest) (flushed o st)) (brk d i m rest)
    (each_follows o k (t ∷ ts) i m (entry i d ∷ rest) (w ∷ ws) h (late_place p) [] (g ++ spaces (gap st.column)) (flushed o st)
    (flushed_late o p w ws g st s.stands))
    (k.follows d i m rest))

breaks_end_lines : (o : RenderOptions) (n : ℕ) → EndLines (breaks o n)
unfolding breaks
breaks_end_lines o zero = record { follows = λ d i m rest p ws g st s. tt }
breaks_end_lines o (suc n) = record {
  follows = λ d i m rest p ws g st s. break_follows o (breaks_end_lines o n) st.pending d i m rest ws s.waits s;
}

-- ---- the end of the document

-- after a gap so far, where such items wait, the bytes of an outcome show the items, and these are all
abbrev EndsWith : Place → List Item → List ℕ → List Item → Outcome → Type 0
EndsWith p ws g items (Done b st) = ShowsFrom p ws (g ++ b) items
EndsWith p ws g items (Failed b) = ⊤

-- it ends so wherever items wait and a gap stands
abbrev EndsAlways : (State → Outcome) → Type 0
EndsAlways f = (q : Place) (vs : List Item) (h : List ℕ) (u : State) → StandsIn q vs h u → EndsWith q vs h [] (f u)

ends-after : {p : Place} {ws : List Item} {g b : List ℕ} {before : List Item} {q : Place} {vs : List Item} {h : List ℕ} (o : Outcome)
    → Joins p ws g b before q vs h → EndsWith q vs h [] o → EndsWith p ws g (before ++ []) (after_bytes b o)
ends-after (Done a st) k e = k.shows_all a [] e
ends-after (Failed a) k e = tt

ends-then : (p : Place) (ws : List Item) (g : List ℕ) (before : List Item) (o : Outcome) (f : State → Outcome)
    → Follows p ws g before o
    → EndsAlways f → EndsWith p ws g (before ++ []) (and_then o f)
ends-then p ws g before (Done b st) f h k = ends-after (f st) h.4 (k h.0 h.1 h.2 st h.3)
ends-then p ws g before (Failed b) f h k = tt

gap_ends : (p : Place) (g n : List ℕ) (o : Outcome) → EndsWith p [] (g ++ n) [] o → EndsWith p [] g [] (after_bytes n o)
gap_ends p g n (Done b st) e = subst (λ (x : List ℕ). ShowsFrom p [] x []) (append_assoc g n b) e
gap_ends p g n (Failed b) e = tt

late_ends : (p : Place) (w : Item) (ws : List Item) (g n : List ℕ) (o : Outcome) → NoneIsLate (w ∷ ws)
    → EndsWith (late_place p) [] (g ++ n) ((w ∷ ws) ++ []) o → EndsWith p (w ∷ ws) g [] (after_bytes n o)
late_ends p w ws g n (Done b st) none e =
    shown_late p IsBlank [] (λ r l rest k. end_blank (After r l) rest k) (w ∷ ws) (g ++ (n ++ b)) none
    (subst (λ (x : List ℕ). ShowsFrom (late_place p) [] x ((w ∷ ws) ++ [])) (append_assoc g n b) e)
late_ends p w ws g n (Failed b) none e = tt

end_shows : (o : RenderOptions) {brk : Breaks} (again : State → Outcome) → EndLines brk → EndsAlways again
    → (ps : List Tree) {st : State}
    {p : Place} (ws : List Item) {g : List ℕ} → AllShow ps ws → StandsIn p ws g st → EndsWith p ws g [] (end_with o brk again ps st)
end_shows o again k f [] {st} {p} [] {g} h s =
    end_stands p (g ++ []) st.column (subst (λ (x : List ℕ). Stands p [] x st.column) (sym (append-nil g)) s.stands)
end_shows o again k f [] (w ∷ ws) h s = absurd (cc)
end_shows o {brk} again k f (t ∷ ts) {st} {p} [] {g} h s =
    gap_ends p g (spaces (gap st.column)) (and_then (lay_each o brk (t ∷ ts) 0 Break [] (flushed o st)) again)
    (ends-then p [] (g ++ spaces (gap st.column)) [] (lay_each o brk (t ∷ ts) 0 Break [] (flushed o st)) again
    (each_follows o k (t ∷ ts) 0 Break [] [] h p [] (g ++ spaces (gap st.column)) (flushed o st)
    (flushed_stands o p g st s.stands)) f)
end_shows o {brk} again k f (t ∷ ts) {st} {p} (w ∷ ws) {g} h s =
    late_ends p w ws g (spaces (gap st.column)) (and_then (lay_each o brk (t ∷ ts) 0 Break [] (flushed o st)) again)
    (none_waits_late (t ∷ ts) (w ∷ ws) h)
    (ends-then (late_place p) [] (g ++ spaces (gap st.column)) (w ∷ ws) (lay_each o brk (t ∷ ts) 0 Break [] (flushed o st)) again
    (each_follows o k (t ∷ ts) 0 Break [] (w ∷ ws) h (late_place p) [] (g ++ spaces (gap st.column)) (flushed o st)
    (flushed_late o p w ws g st s.stands)) f)

finish_ends : (o : RenderOptions) {brk : Breaks} → EndLines brk → (n : ℕ) → EndsAlways (λ u. finish o brk n u)
unfolding finish
finish_ends o k zero = λ q vs h u s. tt
finish_ends o {brk} k (suc n) = λ q vs h u s.
    end_shows o (λ z. finish o brk n z) k (finish_ends o k n) u.pending vs s.waits s

by_ends : (o : RenderOptions) (n : ℕ) (d : Tree) (items : List Item) → shows d items
    → EndsWith at_start [] [] (items ++ []) (layout_by o n d)
unfolding layout_by
by_ends o n d items h =
    ends-then at_start [] [] items (lay o (breaks o n) d 0 Break [] initial) (λ u. finish o (breaks o n) n u)
    (lay_follows o (breaks_end_lines o n) d 0 Break [] {st = initial} items {p = at_start} {ws = []} {g = []} h
    (record { waits = refl; stands = (refl, tt, (refl, refl, refl)) }))
    (finish_ends o (breaks_end_lines o n) n)

whole_shown : (x : Outcome) (items : List Item) (b : List ℕ) → EndsWith at_start [] [] items x → bytes_of x ≡ Whole b
    → AreShown b items
whole_shown (Done a st) items b h e = let same : a ≡ b = cc in rw same at h
whole_shown (Failed a) items b h e = absurd (cc)

-- a whole layout shows what its document shows
pub layout_shows : (o : RenderOptions) (d : Tree) (b : List ℕ) (items : List Item) → shows d items → layout o d ≡ Whole b
    → AreShown b items
unfolding layout
layout_shows o d b items h e =
    whole_shown (layout_by o (size d + 1) d) items b
    (subst (λ (xs : List Item). EndsWith at_start [] [] xs (layout_by o (size d + 1) d)) (append-nil items)
    (by_ends o (size d + 1) d items h)) e
