-- A document that is laid as its texts: how its nodes lead on, and how the turn ends.
use Rattle.std.proofs.Common.{◌≡◌, ◌==◌, ℕ, ℤ, ◌^◌, ◌+◌, ◌≤◌, ◌<◌, ◌&&◌, nat_le, Bool, true, false, List, [], ◌∷◌, ◌++◌, length, refl, ap}
use Rattle.std.proofs.Common.{sym, ◌∙◌, append-nil, arith, subst, Ok, Err, append_assoc, length-append, map, max, reverse}
use Rattle.std.specs.List.{All, sum_by}
use Rattle.std.proofs.lemmas.List.{length-map, length-reverse, reverse-append}
use Rattle.std.proofs.lemmas.List.Elements.{All-append, All-cons, All-head, All-nil, All-tail}
use Rattle.std.proofs.lemmas.List.Sums.{sum_by-append, sum_by-cons}
use Rattle.prettyless_probe.proofs.Stacks.{nodes-append}
use Rattle.prettyless_sink.specs.Sink.{Accepts, IfKnown, Refuses, known, rise}
use Rattle.prettyless_sink.specs.declared.error.RenderError.TheVariants.{Sink}
use Rattle.prettyless_sink.specs.declared.visits.Visits.{Visits}
use Rattle.prettyless_model.specs.declared.options.RenderOptions.{RenderOptions}
use Rattle.prettyless_model.specs.declared.mode.Mode.TheVariants.{Flat}
use Rattle.prettyless_model.specs.Tree.{Tree, Nil, Text, Append, Nest, Group, BreakOrFlat, One, Two, size}
use Rattle.prettyless_model.specs.declared.kind.Pair.{Pair}
use Rattle.prettyless_model.specs.declared.kind.Single.{Single}
use Rattle.prettyless_model.specs.declared.kind.Single.TheVariants as one
use Rattle.prettyless_model.specs.declared.kind.Indenting.TheVariants as by
use Rattle.prettyless_model.specs.Column.{gap, nested, prospective, saturating_add}
use Rattle.prettyless_model.specs.Spaces.{spaces}
use Rattle.prettyless_model.specs.Layout.{State}
use Rattle.prettyless_model.specs.Counts.{each_probe}
use Rattle.prettyless_probe.specs.Stack.{Task, make_task, nodes, trees}
use Rattle.prettyless_probe.specs.Texts.{IsTexts, texts_waiting}
use Rattle.prettyless_probe.specs.Probing.{RisesBy}
use Rattle.prettyless_probe.specs.Sums.{HaveSummaries}
use Rattle.prettyless_step.specs.Printing.{Descends}
use Rattle.prettyless_step.specs.declared.printer.Printer.{Printer}
use Rattle.prettyless_step.proofs.Shown.{step_at, StepsTo}
use Rattle.prettyless_step.proofs.Queues.{trees-append}
use Rattle.prettyless_printer.specs.Points.{QueueGrows, Standing, standing, state_at, Seen, Point, point_at, point}
use Rattle.prettyless_printer.specs.Progress.{Inside}
use Rattle.prettyless_printer.specs.Turns.{Advances, ForWholes}
use Rattle.prettyless_printer.specs.Visits.{CountsAtMost, Plain, Rise}
use Rattle.prettyless_printer.specs.AtLeast.{CountsAtLeast, stack_tally, tally_above}
use Rattle.prettyless_printer.specs.Laying.{Laying, laid_to}
use Rattle.prettyless_printer.specs.CourseOf.{after_all, after_texts}
use Rattle.prettyless_printer.specs.Spending.{Left, Rule, Spends, left}
use Rattle.prettyless_printer.specs.declared.answer.TurnResult.TheVariants as turn_result
use Rattle.prettyless_printer.proofs.Spending.{left_with, spends_then}
use Rattle.prettyless_printer.proofs.Descends.{InHand, Visit, goes_down}
use Rattle.prettyless_printer.proofs.Standings.{descended, step_from}
use Rattle.prettyless_printer.proofs.Trying.{grows-grows}
use Rattle.prettyless_printer.proofs.Turnings.{work_falls, sink_error, move_inside}
use Rattle.prettyless_printer.proofs.Visits.{OneMore, at_most_all, at_most_then, failed_at_most, rise_then, move_at_most}
use Rattle.prettyless_printer.proofs.AtLeast.{OneLaid, at_least_then, move_at_least}

-- documents at indents, each flat
abbrev pub flat_tasks : List ℕ → List Tree → List Task
flat_tasks [] ds = map (make_task 0 Flat) ds
flat_tasks (i ∷ is) [] = []
flat_tasks (i ∷ is) (d ∷ ds) = make_task i Flat d ∷ flat_tasks is ds

-- a turn has reached a point with documents above the stack, each flat at some indent
abbrev pub Lays : Point → List Tree → Point → Type 0
Lays a ds b = (is : List ℕ) × Laying a (flat_tasks is ds) b

-- ---- One step

-- A task that needs no probe was visited, once.
pub record VisitedOnce (t : Task) (v x : Visits) : Type 0 where
  pub least : rise v.printer ≤ x.printer
  pub rises : v.printer ≤ x.printer
  pub most : x.printer ≤ v.printer + 1
  pub probes : x.probes ≡ v.probes
  pub asks : each_probe t.tree t.mode ≡ 0

once_more : (o : RenderOptions) (t : Task) (ts : List Task) (st : State) (v x : Visits) → VisitedOnce t v x → OneMore o t ts st v x
once_more o t ts st v x h = record { printer = omega (arith, h.most); probes = omega (arith, h.probes) }

once_laid : (t : Task) (v x : Visits) → VisitedOnce t v x → OneLaid t v x
once_laid t v x h = record { printer = h.least; probes = omega (arith, h.probes, h.asks) }

once_rise : {t : Task} {v x : Visits} → VisitedOnce t v x → Rise v x
once_rise {t} {v} {x} h = record { printer = h.rises; probes = omega (arith, h.probes) }

-- The step of the first of the tasks above the stack: it writes bytes and leads to these ones.
pub record FirstStepsTo (a : Point) (t : Task) (us : List Task) (b : Point) (vs : List Task) (q : Standing) (bytes : List ℕ) : Type 0 where
  pub tasks : q.tasks ≡ b.printer.tasks
  pub options : q.options ≡ b.printer.options
  pub grows : QueueGrows b.printer q
  pub steps_to : StepsTo (step_at a.printer.options t (us ++ b.printer.tasks) (state_at b.printer)) (us ++ b.printer.tasks) bytes
      (vs ++ b.printer.tasks) (state_at q)
  pub fewer : nodes vs + 1 ≤ size t.tree + nodes us

-- below the current tasks are no fewer than below the next task where the turn began
below_long : (us ts : List Task) (n m : ℕ) → n < m → m ≤ length ts + 1 → n ≤ length (us ++ ts)
below_long us ts n m l h = omega (arith, l, h, length-append us ts)

-- the first of the tasks above the stack is laid
pub laying_step : {a : Point} {t : Task} {us : List Task} {b : Point} (vs : List Task) (q : Standing) (s : Seen) (x : Visits)
    (bytes : List ℕ) → Laying a (t ∷ us) b → VisitedOnce t b.visits x →
    FirstStepsTo a t us b vs q bytes → s.lender ≡ b.sink.lender → Accepts b.sink.bytes s.bytes bytes b.sink.failures s.failures →
    Laying a vs (point_at q s x)
laying_step {a} {t} {us} {b} vs q s x bytes h once w lender accepts =
    let o = a.printer.options in
    let ts : List Task = us ++ b.printer.tasks in
    let st = state_at b.printer in
    let u = state_at q in
    let new : List Task = vs ++ b.printer.tasks in
    let old : List Task = t ∷ ts in
    let more = once_more o t ts st b.visits x once in
    let goal : Laying a vs (record (point_at q s x) { printer = record q { tasks = b.printer.tasks } }) = record {
      options = w.options ∙ h.options;
      grows = grows-grows a.printer b.printer q h.grows w.grows;
      same_lender = lender ∙ h.same_lender;
      long = h.long;
      less = omega (arith, h.less, work_falls o t ts new st u bytes w.steps_to);
      bytes = λ is_known.
          let y = h.bytes is_known in
          let z = accepts y.0 in (
            z.0,
            (
              λ whole limit below before l m.
                  subst (λ (k : List ℕ). Inside o whole limit below before new u k) (sym z.1.0)
                  (move_inside bytes
                  (below_long us b.printer.tasks (length below) (length a.printer.tasks) l h.long)
                  (y.1.0 whole limit below before l m) w.steps_to),
              z.1.1 ∙ y.1.1,
            ),
          );
      least = omega (arith, h.least, once.rises);
      rise = rise_then h.rise (once_rise once);
      most = omega (arith, h.most, once.most, w.fewer);
      at_most = λ plain.
          let y = h.at_most plain in
          let z = move_at_most new u bytes more y.0 w.steps_to in
          (z.0, at_most_then y.1 z.1);
      at_least = λ j l. at_least_then (h.at_least j l)
          (move_at_least o j ts new st u bytes (once_laid t b.visits x once)
          (below_long us b.printer.tasks j (length a.printer.tasks) l h.long) w.steps_to);
    } in
    subst (λ (k : List Task). Laying a vs (point_at (record q { tasks = k }) s x)) (sym w.tasks) goal

-- ---- How a turn ends

-- all of it is laid
pub laying_done : {N E : Type 0} (f : N → Tree) {a b : Point} → Laying a [] b → Advances {N = N} {E = E} f a b (Ok turn_result.Complete)
laying_done {N} {E} f {a} {b} h = record {
  options = h.options;
  grows = h.grows;
  work_falls = h.less;
  same_lender = h.same_lender;
  bytes = h.bytes;
  least = h.least;
  most = omega (arith, h.most);
  rise = h.rise;
  at_most = λ plain.
      let y = h.at_most plain in
      (record { none = y.0.0; pending = y.0.1 }, y.1);
  at_least = λ n l.
      subst (λ (o : RenderOptions). CountsAtLeast (stack_tally a.printer n) (tally_above o n b.printer.tasks (state_at b.printer)) a.visits
      b.visits) (sym h.options) (h.at_least n l);
}

-- what ended in an error at a task has counted no more than the tasks allow
laying_error : {a : Point} {t : Task} {us : List Task} {b : Point} {x : Visits} → Laying a (t ∷ us) b → VisitedOnce t b.visits x →
    Plain a.printer → CountsAtMost a.printer.tasks [] a.visits x
laying_error {a} {t} {us} {b} {x} h once plain =
    let ts : List Task = us ++ b.printer.tasks in
    let st = state_at b.printer in
    at_most_all (at_most_then (h.at_most plain).1
    (failed_at_most (once_more a.printer.options t ts st b.visits x once)))

-- the sink failed in the bytes of a text
pub laying_sink_failed : {N E : Type 0} (f : N → Tree) {a : Point} {t : Task} {us : List Task} {b : Point} {vs : List Task}
    {q : Standing} {bytes : List ℕ} (p : Standing) (s : Seen) (x : Visits) (e : E) → Laying a (t ∷ us) b →
    VisitedOnce t b.visits x → FirstStepsTo a t us b vs q bytes → 1 ≤ size t.tree → s.lender ≡ b.sink.lender →
    Refuses b.sink.bytes s.bytes bytes b.sink.failures s.failures →
    Advances {N = N} {E = E} f a (point_at p s x) (Err (Sink e))
laying_sink_failed {N} {E} f {a} {t} {us} {b} {vs} {q} {bytes} p s x e h once w size_1 lender refused =
    let o = a.printer.options in
    let ts : List Task = us ++ b.printer.tasks in
    let new : List Task = vs ++ b.printer.tasks in
    let st = state_at b.printer in
    record {
      options = tt;
      grows = tt;
      work_falls = tt;
      same_lender = lender ∙ h.same_lender;
      bytes = λ is_known.
          let y = h.bytes is_known in
          let z = refused y.0 in (
            z.0,
            (
              λ whole limit below old l m.
                  sink_error new (state_at q)
                  (below_long us b.printer.tasks (length below) (length a.printer.tasks) l h.long)
                  (y.1.0 whole limit below old l m) w.steps_to z.1.0,
              z.1.1 ∙ ap rise y.1.1,
            ),
          );
      least = omega (arith, h.least, once.rises);
      most = omega (arith, h.most, once.most, size_1);
      rise = rise_then h.rise (once_rise once);
      at_most = λ plain. laying_error h once plain;
      at_least = tt;
    }

-- a step led to the document
pub laying_begins : {N : Type 0} (f : N →
    Tree) {a : Point} {t : Task} {s : Seen} {v : Visits} (p q : Printer N) (x : Visits) (i : ℕ) (n : N) → InHand a t (point f p s v) →
    Visit a.printer.options t (point f p s v) x →
    RisesBy (each_probe t.tree t.mode) v.probes x.probes → Descends f i Flat n (step_from a.printer.options t (standing f p)) p q →
    Laying a (make_task i Flat (f n) ∷ []) (point f q s x)
laying_begins {N} f {a} {t} {s} {v} p q x i n h one probes shows =
    let b = point f p s v in
    let c = standing f q in
    let o = a.printer.options in
    let ts : List Task = b.printer.tasks in
    let us : List Task = make_task i Flat (f n) ∷ c.tasks in
    let g = goes_down f p q x i Flat n h one probes shows in
    let k = descended f i Flat n (step_at o t ts (state_at b.printer)) p q shows in
    record {
      options = g.options;
      grows = g.grows;
      same_lender = ap (λ (z : Seen). z.lender) g.sink;
      long = g.long;
      less = omega (arith, h.less, work_falls o t ts us (state_at b.printer) (state_at c) [] k.steps_to);
      bytes = λ is_known.
          subst (λ (z : Seen). IfKnown a.sink.bytes z.bytes (λ out new.
          ForWholes a.printer out (λ whole limit below old. Inside o whole limit below old us (state_at c) new)
          × (z.failures ≡ a.sink.failures)))
          (sym g.sink) (λ y. (y, (g.inside (known a.sink.bytes), refl))) is_known;
      least = omega (arith, h.rise.printer, one.least);
      rise = g.rise;
      most = omega (arith, g.most);
      at_most = g.at_most;
      at_least = g.at_least;
    }

-- ---- Documents that are each flat

-- no document is no task
none_left : (is : List ℕ) → flat_tasks is [] ≡ []
none_left [] = refl
none_left (i ∷ is) = refl

-- the first of documents that are each flat at some indent
record Head (d : Tree) (ds : List Tree) (is : List ℕ) : Type 0 where
  at : ℕ
  others : List ℕ
  is_it : flat_tasks is (d ∷ ds) ≡ make_task at Flat d ∷ flat_tasks others ds

head : (d : Tree) (ds : List Tree) (is : List ℕ) → Head d ds is
head d ds [] = record { at = 0; others = []; is_it = refl }
head d ds (i ∷ is) = record { at = i; others = is; is_it = refl }

-- the steps of the first document: it puts some in its place, each flat, and writes nothing
laying_steps_to : {a : Point} {i : ℕ} {d : Tree} {us : List Task} {b : Point} (vs : List Task) (x : Visits) →
    Laying a (make_task i Flat d ∷ us) b → VisitedOnce (make_task i Flat d) b.visits x →
    StepsTo (step_at a.printer.options (make_task i Flat d) (us ++ b.printer.tasks) (state_at b.printer)) (us ++ b.printer.tasks) []
    (vs ++ b.printer.tasks) (state_at b.printer) → nodes vs + 1 ≤ size d + nodes us →
    Laying a vs (point_at b.printer b.sink x)
laying_steps_to {a} {i} {d} {us} {b} vs x h once steps_to fewer =
    laying_step vs b.printer b.sink x [] h once
    (record { tasks = refl; options = refl; grows = ([], sym (append-nil b.printer.queue)); steps_to = steps_to; fewer = fewer }) refl
    (λ is_known. (is_known, (sym (append-nil (known b.sink.bytes)), refl)))

-- ---- Documents that give way to others

-- A document that is laid flat writes nothing, and these documents come in its place, each at an indent of its own.
pub record GivesWay (d : Tree) (cs : List Tree) : Type 0 where
  indents : ℕ → List ℕ
  first : (i : ℕ) (is : List ℕ) (ds : List Tree) → flat_tasks (indents i ++ is) (cs ++ ds) ≡ flat_tasks (indents i) cs ++ flat_tasks is ds
  steps_to : (o : RenderOptions) (i : ℕ) (ts : List Task) (st : State)
      → StepsTo (step_at o (make_task i Flat d) ts st) ts [] (flat_tasks (indents i) cs ++ ts) st
  work : (i : ℕ) → nodes (flat_tasks (indents i) cs) + 1 ≤ size d
  fewer : sum_by size cs + 1 ≤ size d
  texts : IsTexts d → All IsTexts cs
  after : (o : RenderOptions) (st : State) (ds : List Tree) → after_all o (d ∷ ds) st ≡ after_all o (cs ++ ds) st
  unasked : each_probe d Flat ≡ 0

pub append_gives_way : (l r : Tree) → GivesWay (Append l r) (l ∷ r ∷ [])
append_gives_way l r = record {
  indents = λ i. i ∷ i ∷ [];
  first = λ i is ds. refl;
  steps_to = λ o i ts st. (refl, refl, refl);
  work = λ i. omega arith;
  fewer = omega arith;
  texts = λ h. All-cons IsTexts l (r ∷ []) h.0 (All-cons IsTexts r [] h.1 (All-nil IsTexts));
  after = λ o st ds. refl;
  unasked = refl;
}

nest_gives_way : (k : ℤ) (c : Tree) → GivesWay (Nest k c) (c ∷ [])
nest_gives_way k c = record {
  indents = λ i. nested i k ∷ [];
  first = λ i is ds. refl;
  steps_to = λ o i ts st. (refl, refl, refl);
  work = λ i. omega arith;
  fewer = omega arith;
  texts = λ h. All-cons IsTexts c [] h (All-nil IsTexts);
  after = λ o st ds. refl;
  unasked = refl;
}

group_gives_way : (c : Tree) → GivesWay (Group c) (c ∷ [])
group_gives_way c = record {
  indents = λ i. i ∷ [];
  first = λ i is ds. refl;
  steps_to = λ o i ts st. (refl, refl, refl);
  work = λ i. omega arith;
  fewer = omega arith;
  texts = λ h. All-cons IsTexts c [] h (All-nil IsTexts);
  after = λ o st ds. refl;
  unasked = refl;
}

-- of the nodes that hold one document these alone are texts
pub one_gives_way : (kind : Single) (c : Tree) → IsTexts (One kind c) → GivesWay (One kind c) (c ∷ [])
one_gives_way one.LineSuffix c h = absurd h
one_gives_way (one.Indented (by.Nest k)) c h = nest_gives_way k c
one_gives_way (one.Indented by.DedentToRoot) c h = absurd h
one_gives_way (one.Indented by.Align) c h = absurd h
one_gives_way one.Flatten c h = absurd h
one_gives_way one.Group c h = group_gives_way c

pub either_gives_way : (b c : Tree) → GivesWay (BreakOrFlat b c) (c ∷ [])
either_gives_way b c = record {
  indents = λ i. i ∷ [];
  first = λ i is ds. refl;
  steps_to = λ o i ts st. (refl, refl, refl);
  work = λ i. omega arith;
  fewer = omega arith;
  texts = λ h. All-cons IsTexts c [] h (All-nil IsTexts);
  after = λ o st ds. refl;
  unasked = refl;
}

pub nil_gives_way : GivesWay Nil []
nil_gives_way = record {
  indents = λ i. [];
  first = λ i is ds. refl;
  steps_to = λ o i ts st. (refl, refl, refl);
  work = λ i. omega arith;
  fewer = omega arith;
  texts = λ h. All-nil IsTexts;
  after = λ o st ds. refl;
  unasked = refl;
}

pub empty_gives_way : (s : List ℕ) → s ≡ [] → GivesWay (Text s) []
empty_gives_way [] e = record {
  indents = λ i. [];
  first = λ i is ds. refl;
  steps_to = λ o i ts st. (refl, refl, refl);
  work = λ i. omega arith;
  fewer = omega arith;
  texts = λ h. All-nil IsTexts;
  after = λ o st ds. refl;
  unasked = refl;
}
empty_gives_way (c ∷ cs) e = absurd (cc)

-- the first document gives way to others
lays_instead : {a : Point} {b : Point} {d : Tree} {cs : List Tree} → GivesWay d cs → (ds : List Tree) (x : Visits) → Lays a (d ∷ ds) b
    → ((i : ℕ) → VisitedOnce (make_task i Flat d) b.visits x) → Lays a (cs ++ ds) (point_at b.printer b.sink x)
lays_instead {a} {b} {d} {cs} way ds x h once =
    let z = head d ds h.0 in
    let us : List Task = flat_tasks z.others ds in
    let new : List Task = flat_tasks (way.indents z.at) cs in
    let o = a.printer.options in
    let t = make_task z.at Flat d in
    let ts : List Task = b.printer.tasks in
    let st = state_at b.printer in (
      way.indents z.at ++ z.others,
      subst (λ (vs : List Task). Laying a vs (point_at b.printer b.sink x)) (sym (way.first z.at z.others ds))
          (laying_steps_to (new ++ us) x (subst (λ (vs : List Task). Laying a vs b) z.is_it h.1) (once z.at)
          (subst (λ (vs : List Task). StepsTo (step_at o t (us ++ ts) st) (us ++ ts) [] vs st) (sym (append_assoc new us ts))
          (way.steps_to o z.at (us ++ ts) st))
          (omega (arith, way.work z.at, nodes-append new us))),
    )

-- ---- A text

-- How a text is laid where a printer stands: after so many spaces, from a position on.
abbrev pub TextStart : Standing → Bool → ℕ → ℕ → Type 0
TextStart p false gap position = (gap ≡ Rattle.prettyless_model.specs.Column.gap p.column) × (position ≡ prospective p.column)
TextStart p true gap position = (gap ≡ 0) × (position < 2 ^ 64)

within_less : (w : Bool) (n m width : ℕ) → n ≤ m → (w && nat_le m width) ≡ ((w && nat_le n width) && nat_le m width)
within_less false n m width l = refl
within_less true n m width l = grind (arith)

text_steps_to : {o : RenderOptions} (p : Standing) (w : Bool) (g position : ℕ) (s : List ℕ) (i : ℕ) (ts : List Task) → o ≡ p.options →
    0 < length s → TextStart p w g position →
    StepsTo (step_at o (make_task i Flat (Text s)) ts (state_at (laid_to p w position))) ts (spaces g ++ s) ts
    (state_at (laid_to p true (saturating_add position (length s))))
text_steps_to p w g position [] i ts e l h = absurd (omega (arith, l))
text_steps_to p false g position (c ∷ cs) i ts e l h =
    let s : List ℕ = c ∷ cs in (
      ap (λ (k : ℕ). spaces k ++ s) h.0,
      refl,
      λ j. record {
        column = record { position = saturating_add (h.1 j) (length s); indent = 0; padding = 0; fresh = false };
        pending = (state_at p).pending;
        within = p.within && nat_le (saturating_add (h.1 j) (length s)) (sym e j).width;
      },
    )
text_steps_to p true g position (c ∷ cs) i ts e l h =
    let s : List ℕ = c ∷ cs in
    let at : position ≡ prospective (record { position = position; indent = 0; padding = 0; fresh = false }) = omega (arith, h.1) in
    let after = saturating_add position (length s) in
    let less : position ≤ after = omega (arith, h.1) in
    let first = p.within && nat_le position p.options.width in
    let stays : (p.within && nat_le after p.options.width) ≡ (first && nat_le after p.options.width) =
    within_less p.within position after p.options.width less in
    let moved = ap (λ (k : ℕ). first && nat_le (saturating_add k (length s)) p.options.width) at in
    let opted = ap (λ (z : RenderOptions). first && nat_le
    (saturating_add (prospective (record { position = position; indent = 0; padding = 0; fresh = false })) (length s))
    z.width) (sym e) in
    let within_is = stays ∙ moved ∙ opted in (
      ap (λ (k : ℕ). spaces k ++ s) h.0,
      refl,
      λ j. record {
        column = record { position = saturating_add (at j) (length s); indent = 0; padding = 0; fresh = false };
        pending = (state_at p).pending;
        within = within_is j;
      },
    )

-- the state after it
text_after : (p : Standing) (w : Bool) (g position : ℕ) (s : List ℕ) → 0 < length s → TextStart p w g position
    → after_texts p.options (Text s) (state_at (laid_to p w position)) ≡ state_at (laid_to p true (saturating_add position (length s)))
text_after p w g position [] l spot = absurd (omega (arith, l))
text_after p w g position (c ∷ cs) l spot =
    sym (text_steps_to {o = p.options} p w g position (c ∷ cs) 0 [] refl l spot).2

-- A text that is not empty is about to be laid, where texts were laid up to a position.
pub record AtText (a : Point) (p : Standing) (w : Bool) (g position : ℕ) (s : List ℕ) (ds : List Tree) (sink : Seen)
    (v x : Visits) : Type 0 where
  pub lays : Lays a (Text s ∷ ds) (point_at (laid_to p w position) sink v)
  pub once : (i : ℕ) → VisitedOnce (make_task i Flat (Text s)) v x
  pub some : 0 < length s
  pub spot : TextStart p w g position
  pub options : p.options ≡ a.printer.options

stands_options : (p : Standing) (w : Bool) (position : ℕ) → (laid_to p w position).options ≡ p.options
stands_options p false position = refl
stands_options p true position = refl

stands_tasks : (p : Standing) (w : Bool) (position : ℕ) → (laid_to p w position).tasks ≡ p.tasks
stands_tasks p false position = refl
stands_tasks p true position = refl

stands_grows : (p : Standing) (w : Bool) (m n : ℕ) → QueueGrows (laid_to p w m) (laid_to p true n)
stands_grows p false m n = ([], sym (append-nil p.queue))
stands_grows p true m n = ([], sym (append-nil p.queue))

text_writes : {a : Point} {p : Standing} {w : Bool} {g position : ℕ} {s : List ℕ} {ds : List Tree} {sink : Seen} {v x : Visits}
    (i : ℕ) (us : List Task) → AtText a p w g position s ds sink v x →
    FirstStepsTo a (make_task i Flat (Text s)) us (point_at (laid_to p w position) sink v) us
    (laid_to p true (saturating_add position (length s))) (spaces g ++ s)
text_writes {a} {p} {w} {g} {position} {s} i us h = record {
  tasks = sym (stands_tasks p w position);
  options = sym (stands_options p w position);
  grows = stands_grows p w position (saturating_add position (length s));
  steps_to = text_steps_to p w g position s i (us ++ (laid_to p w position).tasks) (sym h.options) h.some h.spot;
  fewer = omega arith;
}

-- it is written
pub lays_text : {a : Point} {p : Standing} {w : Bool} {g position : ℕ} {s : List ℕ} {ds : List Tree} {sink : Seen} {v x : Visits} (t : Seen)
    → AtText a p w g position s ds sink v x → t.lender ≡ sink.lender →
    Accepts sink.bytes t.bytes (spaces g ++ s) sink.failures t.failures →
    Lays a ds (point_at (laid_to p true (saturating_add position (length s))) t x)
lays_text {a} {p} {w} {g} {position} {s} {ds} {sink} {v} {x} t h lender accepts =
    let b = point_at (laid_to p w position) sink v in
    let z = head (Text s) ds h.lays.0 in
    let us : List Task = flat_tasks z.others ds in (
      z.others,
      laying_step us (laid_to p true (saturating_add position (length s))) t x (spaces g ++ s)
          (subst (λ (k : List Task). Laying a k b) z.is_it h.lays.1) (h.once z.at)
          (text_writes z.at us h) lender accepts,
    )

-- the sink failed in it
pub lays_text_failed : {N E : Type 0} (f : N →
    Tree) {a : Point} {p : Standing} {w : Bool} {g position : ℕ} {s : List ℕ} {ds : List Tree} {sink : Seen} {v x : Visits} (q : Standing)
    (t : Seen) (e : E) → AtText a p w g position s ds sink v x →
    t.lender ≡ sink.lender → Refuses sink.bytes t.bytes (spaces g ++ s) sink.failures t.failures →
    Advances {N = N} {E = E} f a (point_at q t x) (Err (Sink e))
lays_text_failed {N} {E} f {a} {p} {w} {g} {position} {s} {ds} {sink} {v} {x} q t e h lender refused =
    let b = point_at (laid_to p w position) sink v in
    let z = head (Text s) ds h.lays.0 in
    let us : List Task = flat_tasks z.others ds in
    laying_sink_failed f q t x e
    (subst (λ (k : List Task). Laying a k b) z.is_it h.lays.1) (h.once z.at)
    (text_writes z.at us h) (omega arith) lender refused

-- no document is left
pub lays_done : {N E : Type 0} (f : N → Tree) {a b : Point} → Lays a [] b → Advances {N = N} {E = E} f a b (Ok turn_result.Complete)
lays_done {N} {E} f {a} {b} h = laying_done f (subst (λ (k : List Task). Laying a k b) (none_left h.0) h.1)

-- ---- The documents that are left

-- a node more was counted
pub record OneNode (count n : ℕ) : Type 0 where
  pub one : n ≡ rise count
  pub rises : count ≤ n
  pub at_most : n ≤ count + 1

-- Where the laying of a first document has come, with documents that are left.
pub record Laid (first : Tree) (b : Point) (ds : List Tree) (w : Bool) (g position : ℕ) (sink : Seen) (count : ℕ) : Type 0 where
  pub lays : (a : Point) (i : ℕ) → Laying a (make_task i Flat first ∷ []) b
      → Lays a ds (point_at (laid_to b.printer w position) sink (record b.visits { printer = count }))
  pub texts : All IsTexts ds
  pub after : after_all b.printer.options ds (state_at (laid_to b.printer w position)) ≡ after_texts b.printer.options first
      (state_at b.printer)
  pub spot : TextStart b.printer w g position
  pub rises : b.visits.printer ≤ count
  pub counted : count + sum_by size ds ≤ b.visits.printer + size first

once_at : (d : Tree) (v : Visits) {count n : ℕ} → OneNode count n → each_probe d Flat ≡ 0 → (i : ℕ) →
    VisitedOnce (make_task i Flat d) (record v { printer = count }) (record v { printer = n })
once_at d v {count} {n} h e i = record { least = omega (arith, h.one); rises = h.rises; most = h.at_most; probes = refl; asks = e }

-- the same, where it is named otherwise
pub left_at : {first : Tree} {b : Point} {ds : List Tree} {w w' : Bool} {g g' position position' : ℕ} {sink sink' : Seen} {count : ℕ} →
    w ≡ w' → g ≡ g' → position ≡ position' → sink ≡ sink' →
    Laid first b ds w' g' position' sink' count → Laid first b ds w g position sink count
left_at {first} {b} {ds} {w} {w'} {g} {g'} {position} {position'} {sink} {sink'} {count} e h k m laid =
    subst (λ (z : Bool). Laid first b ds z g position sink count) (sym e)
    (subst (λ (z : ℕ). Laid first b ds w' z position sink count) (sym h)
    (subst (λ (z : ℕ). Laid first b ds w' g' z sink count) (sym k)
    (subst (λ (z : Seen). Laid first b ds w' g' position' z count) (sym m) laid)))

-- it begins
pub left_begins : {first : Tree} {b : Point} {ds : List Tree} {g position : ℕ} → ds ≡ [] → g ≡ gap b.printer.column →
    position ≡ prospective b.printer.column → IsTexts first →
    Laid first b (first ∷ ds) false g position b.sink b.visits.printer
left_begins {first} {b} {ds} {g} {position} none e h texts =
    subst (λ (z : List Tree). Laid first b (first ∷ z) false g position b.sink b.visits.printer) (sym none)
    (record {
      lays = λ a i m. (i ∷ [], m);
      texts = All-cons IsTexts first [] texts (All-nil IsTexts);
      after = refl;
      spot = (e, h);
      rises = omega arith;
      counted = omega arith;
    })

-- the next document gives way to others
pub left_instead : {first : Tree} {b : Point} {d e : Tree} {cs ds : List Tree} {w : Bool} {g position : ℕ} {sink : Seen} {count n : ℕ}
    → GivesWay d cs → d ≡ e → OneNode count n →
    Laid first b (e ∷ ds) w g position sink count → Laid first b (cs ++ ds) w g position sink n
left_instead {first} {b} {d} {e} {cs} {ds} {w} {g} {position} {sink} {count} {n} way is one h =
    let k : Laid first b (d ∷ ds) w g position sink count =
    subst (λ (z : Tree). Laid first b (z ∷ ds) w g position sink count) (sym is) h in
    record {
      lays = λ a i m. lays_instead way ds (record b.visits { printer = n }) (k.lays a i m) (once_at d b.visits one way.unasked);
      texts = All-append IsTexts cs ds (way.texts (All-head IsTexts d ds k.texts)) (All-tail IsTexts d ds k.texts);
      after = sym (way.after b.printer.options (state_at (laid_to b.printer w position)) ds) ∙ k.after;
      spot = h.spot;
      rises = omega (arith, h.rises, one.rises);
      counted = omega (arith, k.counted, one.at_most, way.fewer, sum_by-cons size d ds, sum_by-append size cs ds);
    }

-- ---- A text is the next of them

-- a text that is not empty is next, in a turn that began at a point
at_text : {first : Tree} {b : Point} {ds : List Tree} {w : Bool} {g position : ℕ} {sink : Seen} {count n : ℕ} (s : List ℕ) →
    0 < length s → OneNode count n → Laid first b (Text s ∷ ds) w g position sink count →
    (a : Point) (i : ℕ) → Laying a (make_task i Flat first ∷ []) b →
    AtText a b.printer w g position s ds sink (record b.visits { printer = count }) (record b.visits { printer = n })
at_text {first} {b} {ds} {w} {g} {position} {sink} {count} {n} s some one h a i m = record {
  lays = h.lays a i m;
  once = once_at (Text s) b.visits one refl;
  some = some;
  spot = h.spot;
  options = m.options;
}

pub left_text : {first : Tree} {b : Point} {d : Tree} {ds : List Tree} {w : Bool} {g position : ℕ} {sink : Seen} {count n : ℕ} (s : List ℕ)
    (t : Seen) → 0 < length s → Text s ≡ d → OneNode count n →
    Laid first b (d ∷ ds) w g position sink count → t.lender ≡ sink.lender →
    Accepts sink.bytes t.bytes (spaces g ++ s) sink.failures t.failures →
    Laid first b ds true 0 (saturating_add position (length s)) t n
left_text {first} {b} {d} {ds} {w} {g} {position} {sink} {count} {n} s t some e one h lender accepts =
    let k : Laid first b (Text s ∷ ds) w g position sink count =
    subst (λ (z : Tree). Laid first b (z ∷ ds) w g position sink count) (sym e) h in
    record {
      lays = λ a i m. lays_text t (at_text s some one k a i m) lender accepts;
      texts = All-tail IsTexts (Text s) ds k.texts;
      after = ap (after_all b.printer.options ds) (sym (text_after b.printer w g position s some k.spot)) ∙ k.after;
      spot = (refl, omega arith);
      rises = omega (arith, h.rises, one.rises);
      counted = omega (arith, k.counted, one.at_most, sum_by-cons size (Text s) ds);
    }

-- A document is a text that is not empty, and the sink refuses it after a gap.
pub record TextFails (s : List ℕ) (d : Tree) (sink t : Seen) (g : ℕ) : Type 0 where
  pub some : 0 < length s
  pub is : Text s ≡ d
  pub lender : t.lender ≡ sink.lender
  pub refused : Refuses sink.bytes t.bytes (spaces g ++ s) sink.failures t.failures

-- the sink fails in it
pub left_text_failed : {N E : Type 0} (f : N → Tree) {first : Tree} {b : Point} {d : Tree} {ds : List Tree} {w : Bool}
    {g position : ℕ} {sink : Seen} {count n : ℕ} {s : List ℕ} {q : Standing} {t : Seen} {x : Visits} (e : E) →
    TextFails s d sink t g → OneNode count n → Laid first b (d ∷ ds) w g position sink count → x ≡ record b.visits { printer = n } →
    (a : Point) (i : ℕ) → Laying a (make_task i Flat first ∷ []) b → Advances {N = N} {E = E} f a (point_at q t x) (Err (Sink e))
left_text_failed {N} {E} f {first} {b} {d} {ds} {w} {g} {position} {sink} {count} {n} {s} {q} {t} {x} e fails one h same a i m =
    let k : Laid first b (Text s ∷ ds) w g position sink count =
    subst (λ (z : Tree). Laid first b (z ∷ ds) w g position sink count) (sym fails.is) h in
    subst (λ (z : Visits). Advances {N = N} {E = E} f a (point_at q t z) (Err (Sink e))) (sym same)
    (lays_text_failed f q t e (at_text s fails.some one k a i m) fails.lender fails.refused)

-- nothing is left
pub left_done : {N E : Type 0} (f : N → Tree) {first : Tree} {b : Point} {ds : List Tree} {w : Bool} {g position : ℕ} {sink : Seen}
    {count : ℕ} (q : Standing) (x : Visits) → ds ≡ [] → q ≡ laid_to b.printer w position →
    x ≡ record b.visits { printer = count } → Laid first b ds w g position sink count →
    (a : Point) (i : ℕ) → Laying a (make_task i Flat first ∷ []) b → Advances {N = N} {E = E} f a (point_at q sink x)
    (Ok turn_result.Complete)
left_done {N} {E} f {first} {b} {ds} {w} {g} {position} {sink} {count} q x none stands same h a i m =
    subst (λ (z : Visits). Advances {N = N} {E = E} f a (point_at q sink z) (Ok turn_result.Complete)) (sym same)
    (subst (λ (z : Standing). Advances {N = N} {E = E} f a (point_at z sink (record b.visits { printer = count }))
    (Ok turn_result.Complete)) (sym stands)
    (lays_done f (subst (λ (z : List Tree). Lays a z (point_at (laid_to b.printer w position) sink (record b.visits { printer = count })))
    none (h.lays a i m))))

-- the state is that after the first document
pub left_after : {first : Tree} {b : Point} {ds : List Tree} {w : Bool} {g position : ℕ} {sink : Seen} {count : ℕ} (q : Standing) → ds ≡ []
    → q ≡ laid_to b.printer w position → Laid first b ds w g position sink count
    → state_at q ≡ after_texts b.printer.options first (state_at b.printer)
left_after {b = b} {w = w} {position = position} q none stands h =
    ap state_at stands ∙ sym (ap (λ (z : List Tree). after_all b.printer.options z (state_at (laid_to b.printer w position))) none)
    ∙ h.after

-- ---- Lists of nodes, and memory for them

-- the documents of nodes that are left, the last node first
abbrev pub left_trees : {N : Type 0} → (N → Tree) → List N → List Tree
left_trees f ns = reverse (trees f ns)

-- how many nodes wait at most while documents are laid as their texts one after another, each with those after it waiting
abbrev pub trees_waiting : List Tree → ℕ
trees_waiting [] = 0
trees_waiting (d ∷ ds) = max (texts_waiting d (length ds)) (trees_waiting ds)

-- the last node comes first
pub left_trees-push : {N : Type 0} (f : N → Tree) (ns : List N) (n : N) → left_trees f (ns ++ n ∷ []) ≡ f n ∷ left_trees f ns
left_trees-push {N} f ns n = ap reverse (trees-append f ns (n ∷ [])) ∙ reverse-append (trees f ns) (f n ∷ [])

-- as many documents are left as nodes
pub length-left_trees : {N : Type 0} (f : N → Tree) (ns : List N) → length (left_trees f ns) ≡ length ns
length-left_trees {N} f ns = length-reverse (trees f ns) ∙ length-map ns f

-- the second document of two waits for the first
pub room_to_wait : {d : Tree} {room : ℕ} (ds : List Tree) (l r : Tree) → Append l r ≡ d → trees_waiting (d ∷ ds) ≤ room → length ds < room
room_to_wait {d} {room} ds l r e h =
    let k : trees_waiting (Append l r ∷ ds) ≤ room = subst (λ (z : Tree). trees_waiting (z ∷ ds) ≤ room) (sym e) h in
    omega (arith, k)

pub room_append : {d : Tree} {room : ℕ} (ds : List Tree) (l r : Tree) → Append l r ≡ d → trees_waiting (d ∷ ds) ≤ room
    → trees_waiting (l ∷ r ∷ ds) ≤ room
room_append {d} {room} ds l r e h =
    let k : trees_waiting (Append l r ∷ ds) ≤ room = subst (λ (z : Tree). trees_waiting (z ∷ ds) ≤ room) (sym e) h in
    let longer : length ds + 1 ≡ length (r ∷ ds) = omega arith in
    omega (arith, k, ap (texts_waiting l) longer)

-- a node of one document makes no other wait
pub room_one : {room : ℕ} (ds : List Tree) (kind : Single) (c : Tree) → IsTexts (One kind c) → trees_waiting (One kind c ∷ ds) ≤ room
    → trees_waiting (c ∷ ds) ≤ room
room_one ds one.LineSuffix c h r = absurd h
room_one ds (one.Indented (by.Nest k)) c h r = r
room_one ds (one.Indented by.DedentToRoot) c h r = absurd h
room_one ds (one.Indented by.Align) c h r = absurd h
room_one ds one.Flatten c h r = absurd h
room_one ds one.Group c h r = r

-- a node of two documents, where its kind is known
pub of_kind : {kind known : Pair} {l r d : Tree} → kind ≡ known → Two kind l r ≡ d → Two known l r ≡ d
of_kind {kind} {known} {l} {r} {d} e h = subst (λ (k : Pair). Two k l r ≡ d) e h

-- whether a text is empty
pub some_bytes : (b : Bool) (s : List ℕ) → b ≡ (length s == 0) → b ≡ false → 0 < length s
some_bytes b [] e h = absurd (grind (arith))
some_bytes b (c ∷ cs) e h = omega arith

pub no_bytes : (b : Bool) (s : List ℕ) → b ≡ (length s == 0) → b ≡ true → s ≡ []
no_bytes b [] e h = refl
no_bytes b (c ∷ cs) e h = absurd (grind (arith))

-- what is left after a document was laid as its texts
pub spends_laid : {r : Rule} {a : Left} {t : Task} {v : Visits} (p q : Standing) (x : Visits) → q.tasks ≡ p.tasks → q.queue ≡ p.queue →
    x.probes ≡ v.probes → v.printer ≤ x.printer → x.printer ≤ v.printer + size t.tree →
    Spends r a (left_with t p v) → Spends r a (left q [] x)
spends_laid {r} {a} {t} {v} p q x tasks queue probes rises counted h =
    spends_then h
    (record {
      nodes = omega (arith, ap nodes tasks);
      printer = omega (arith, ap nodes tasks, counted);
      queue = λ none. queue ∙ none;
      capped = λ most l m. omega (arith, l, probes);
      have = λ k. (subst HaveSummaries (sym tasks) k.0.1, tt);
      few = λ is_true small k. (0, omega (arith, probes), omega (arith, rises));
    })
