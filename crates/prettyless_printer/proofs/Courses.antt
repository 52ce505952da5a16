-- The course of a run: what happens one after another, and how a turn goes along it.
use Rattle.std.proofs.Common.{◌≡◌, ℕ, ◌+◌, ◌≤◌, ◌<◌, Bool, List, [], ◌∷◌, ◌++◌, length, refl, sym, arith, subst, inl, inr}
use Rattle.prettyless_model.specs.declared.options.RenderOptions.{RenderOptions}
use Rattle.prettyless_model.specs.declared.mode.Mode.{Mode}
use Rattle.prettyless_model.specs.declared.mode.Mode.TheVariants.{Flat}
use Rattle.prettyless_model.specs.Tree.{Tree, Append, BreakOrFlat, Group, Nest, Nil, PartialUnion, Text}
use Rattle.prettyless_model.specs.Column.{nested}
use Rattle.prettyless_model.specs.Counts.{each_probe}
use Rattle.prettyless_model.specs.Layout.{State}
use Rattle.prettyless_probe.specs.Probing.{asked}
use Rattle.prettyless_probe.specs.Reads.{IsFew, RisesTo}
use Rattle.prettyless_probe.specs.Stack.{Task, make_task, nodes}
use Rattle.prettyless_probe.specs.Texts.{IsTexts}
use Rattle.prettyless_step.specs.Reads.{step_reads}
use Rattle.prettyless_step.specs.Steps.{Step, Move, Stuck, Choose}
use Rattle.prettyless_step.specs.Printing.{state_of, tasks_of}
use Rattle.prettyless_step.specs.declared.printer.Printer.{Printer}
use Rattle.prettyless_step.proofs.Shown.{IsChoice, IsStuck, StepsTo, step_at}
use Rattle.prettyless_printer.specs.Points.{Standing, standing, state_at}
use Rattle.prettyless_printer.specs.Course.{Around, Asks, AsksInPart, Comes, Course, Event, Follows, HasOwn, StepLeadsTo}
use Rattle.prettyless_printer.specs.Course.{RunPlace, TrialIsWithin, Visit, Waiting, place}
use Rattle.prettyless_printer.specs.CourseOf.{ComesToChoice, TrialGoesOn, StopsInPart, StopsWhere, Anywhere, FailsIn, after_texts}
use Rattle.prettyless_printer.specs.CourseOf.{place_at, place_with}
use Rattle.prettyless_printer.proofs.Standings.{Descended, Wrote, state_stands, step_from}

-- ---- One after another

-- nothing happened
pub come_same : (o : RenderOptions) (a : RunPlace) → Comes o a a
come_same o a = record { events = []; course = refl }

course_then : (o : RenderOptions) (es fs : List Event) (a b c : RunPlace) → Course o es a b → Course o fs b c → Course o (es ++ fs) a c
course_then o [] fs a b c h k = subst (λ (z : RunPlace). Course o fs z c) h k
course_then o (e ∷ es) fs a b c h k = (h.0, h.1, course_then o es fs h.0 b c h.2 k)

pub come_then : {o : RenderOptions} {a b c : RunPlace} → Comes o a b → Comes o b c → Comes o a c
come_then {o} {a} {b} {c} h k =
    record { events = h.events ++ k.events; course = course_then o h.events k.events a b c h.course k.course }

-- one thing happened
pub come_by : {o : RenderOptions} {a b : RunPlace} (e : Event) → Follows o e a b → Comes o a b
come_by {b = b} e h = record { events = e ∷ []; course = (b, h, refl) }

-- a run stops somewhere, or is refused memory, after it has come to a place
pub stops_after : {P : RunPlace → Type 0} {o : RenderOptions} {a b : RunPlace} {probes refused : ℕ} → Comes o a b
    → StopsWhere P o b probes refused → StopsWhere P o a probes refused
stops_after h k = record { at = k.at; comes = come_then h k.comes; there = k.there; read = k.read; refusals = k.refusals }

pub stops_in_part_after : {o : RenderOptions} {a b : RunPlace} {probes refused : ℕ} → Comes o a b → StopsInPart o b probes refused
    → StopsInPart o a probes refused
stops_in_part_after h k = record { at = k.at; comes = come_then h k.comes; part = k.part; refusals = k.refusals }

-- it stops where it is
pub stops_here : {o : RenderOptions} {a b : RunPlace} → Comes o a b → StopsWhere Anywhere o a b.probes b.around.refused
stops_here {b = b} h = record { at = b; comes = h; there = tt; read = refl; refusals = refl }

pub stops_at : {o : RenderOptions} {a b : RunPlace} {k : ℕ} → Comes o a b → b.probes ≡ k → StopsWhere Anywhere o a k b.around.refused
stops_at {b = b} h e = record { at = b; comes = h; there = tt; read = e; refusals = refl }

pub refused_here : {o : RenderOptions} {a b : RunPlace} → Comes o a b → StopsInPart o a b.probes b.around.refused
refused_here {b = b} h = record { at = b; comes = h; part = inl refl; refusals = refl }

-- ---- One visit

leads_to : (step : Step) (ts us : List Task) (bytes : List ℕ) (v : State) → StepsTo step ts bytes us v → StepLeadsTo step ts us v
leads_to (Move b pushed u) ts us bytes v h = (h.1, h.2)
leads_to Stuck ts us bytes v h = absurd h
leads_to (Choose i x y) ts us bytes v h = absurd h

stuck_is : (step : Step) → IsStuck step → step ≡ Stuck
stuck_is (Move b pushed u) h = absurd h
stuck_is Stuck h = refl
stuck_is (Choose i x y) h = absurd h

choose_is : (step : Step) (i : ℕ) (x y : Tree) → IsChoice step i x y → step ≡ Choose i x y
choose_is (Move b pushed u) i x y h = absurd h
choose_is Stuck i x y h = absurd h
choose_is (Choose j v w) i x y h = λ k. Choose (sym h.0 k) (sym h.1 k) (sym h.2 k)

-- a node that fails, or is a choice, needs no probe
stuck_asks : (o : RenderOptions) (d : Tree) (i : ℕ) (m : Mode) (ts : List Task) (st : State) (k : ℕ)
    → IsStuck (step_at o (make_task i m d) ts st)
    → asked d m k ≡ 0
stuck_asks o (Group d) i m ts st k h = absurd h
stuck_asks o (PartialUnion l r) i m ts st k h = absurd h
stuck_asks o _ i m ts st k h = refl

choice_asks : (o : RenderOptions) (d : Tree) (i : ℕ) (m : Mode) (ts : List Task) (st : State) (k : ℕ) (j : ℕ) (x y : Tree)
    → IsChoice (step_at o (make_task i m d) ts st) j x y → asked d m k ≡ 0
choice_asks o (Group d) i m ts st k j x y h = absurd h
choice_asks o (PartialUnion l r) i m ts st k j x y h = absurd h
choice_asks o _ i m ts st k j x y h = refl

-- what the code's step says of its probe, where its printer stands
pub asks_here : {N : Type 0} (f : N → Tree) {has : Bool} {o : RenderOptions} {k n : ℕ} (t : Task) (p : Printer N) → p.options ≡ o → k ≤ n
    → n ≤ k + asked t.tree t.mode (nodes (tasks_of f p)) → (0 < each_probe t.tree t.mode → IsFew has t.tree (tasks_of f p)
    → RisesTo (step_reads has k p.options t.tree t.indent t.mode (tasks_of f p) (state_of f p)) k n)
    → Asks has o t (tasks_of f p) (state_at (standing f p)) k n
asks_here f {has} {o} {k} {n} t p same rises most exact =
    subst (λ (z : RenderOptions). Asks has z t (tasks_of f p) (state_at (standing f p)) k n) same
    (subst (λ (u : State). Asks has p.options t (tasks_of f p) u k n) (state_stands f p)
    (record { rises = rises; most = most; exact = exact }))

pub asks_in_part : {N : Type 0} (f : N → Tree) {has : Bool} {o : RenderOptions} {k n : ℕ} (t : Task) (p : Printer N) → p.options ≡ o → k ≤ n
    → n ≤ k + asked t.tree t.mode (nodes (tasks_of f p)) → (IsFew has t.tree (tasks_of f p)
    → n ≤ k + step_reads has k p.options t.tree t.indent t.mode (tasks_of f p) (state_of f p))
    → AsksInPart has o t (tasks_of f p) (state_at (standing f p)) k n
asks_in_part f {has} {o} {k} {n} t p same rises most at_most =
    subst (λ (z : RenderOptions). AsksInPart has z t (tasks_of f p) (state_at (standing f p)) k n) same
    (subst (λ (u : State). AsksInPart has p.options t (tasks_of f p) u k n) (state_stands f p)
    (record { rises = rises; most = most; at_most = at_most }))

-- ---- A turn

-- A turn has come to a current task, above a printer's stack.
pub record InCourse (o : RenderOptions) (a : RunPlace) (u : Around) (t : Task) (p : Standing) (m : ℕ) : Type 0 where
  pub comes : Comes o a (place_with t p m u)
  pub own : HasOwn u.trials (t ∷ p.tasks)
  pub within : TrialIsWithin u.trials (state_at p)

-- the next command is the current one
pub course_begins : {o : RenderOptions} {u : Around} {t : Task} {m : ℕ} (a p : Standing) → a.tasks ≡ t ∷ p.tasks → state_at p ≡ state_at a
    → TrialGoesOn u a.tasks (state_at a) → InCourse o (place_at a m u) u t p m
course_begins {o} {u} {t} {m} a p next same on = record {
  comes = subst (λ (z : RunPlace). Comes o (place_at a m u) z) (λ j. place (next j) (sym same j) m u) (come_same o (place_at a m u));
  own = subst (HasOwn u.trials) next on.0;
  within = subst (TrialIsWithin u.trials) (sym same) on.1;
}

own_long : (ws : List Waiting) (ts us : List Task) → length ts ≤ length us → HasOwn ws ts → HasOwn ws us
own_long [] ts us l h = tt
own_long (w ∷ ws) ts us l h = omega (arith, l, h)

-- its step leads on
pub course_steps : {o : RenderOptions} {a : RunPlace} {u : Around} {t : Task} {p : Standing} {m n : ℕ} {has : Bool}
    (bytes : List ℕ) {us : List Task} {v : State} → InCourse o a u t p m → u.has ≡ has → Asks has o t p.tasks (state_at p) m n
    → StepsTo (step_from o t p) p.tasks bytes us v → Comes o a (place us v n u)
course_steps {o} {a} {u} {t} {p} {m} {n} {has} bytes {us} {v} h same asks steps =
    come_then h.comes (come_by Visit (record {
      task = t;
      below = p.tasks;
      next = refl;
      own = h.own;
      within = λ needs. h.within;
      leads = leads_to (step_from o t p) p.tasks us bytes v steps;
      asks = subst (λ (z : Bool). Asks z o t p.tasks (state_at p) m n) (sym same) asks;
      same = refl;
    }))

-- to the next node
pub course_down : {o : RenderOptions} {a : RunPlace} {u : Around} {t s : Task} {p q : Standing} {m n : ℕ} {has : Bool}
    → InCourse o a u t p m
    → u.has ≡ has → Asks has o t p.tasks (state_at p) m n → Descended s (step_from o t p) p q → InCourse o a u s q n
course_down {u = u} {t = t} {s = s} {p = p} {q = q} h same asks down = record {
  comes = course_steps [] h same asks down.steps_to;
  own = own_long u.trials (t ∷ p.tasks) (s ∷ q.tasks) (omega (arith, down.long)) h.own;
  within = subst (TrialIsWithin u.trials) (sym down.state) h.within;
}

-- to the end of the turn
pub course_wrote : {o : RenderOptions} {a : RunPlace} {u : Around} {t : Task} {p q : Standing} {m n : ℕ} {has : Bool}
    {bytes : List ℕ} → InCourse o a u t p m → u.has ≡ has → Asks has o t p.tasks (state_at p) m n → Wrote (step_from o t p) bytes p q
    → Comes o a (place_at q n u)
course_wrote {bytes = bytes} h same asks moved = course_steps bytes h same asks moved.steps_to

-- it fails
pub course_failed : {o : RenderOptions} {a : RunPlace} {u : Around} {t : Task} {p : Standing} {m n : ℕ} {has : Bool} → InCourse o a u t p m
    → Asks has o t p.tasks (state_at p) m n → IsStuck (step_from o t p) → StopsWhere (FailsIn o u) o a n u.refused
course_failed {o} {a} {u} {t} {p} {m} {n} h asks stuck = record {
  at = place_with t p m u;
  comes = h.comes;
  there = (record { task = t; below = p.tasks; next = refl; own = h.own; fails = stuck_is (step_from o t p) stuck }, refl);
  read = omega (arith, asks.rises, asks.most, stuck_asks o t.tree t.indent t.mode p.tasks (state_at p) (nodes p.tasks) stuck);
  refusals = refl;
}

-- a choice comes next
pub course_choice : {o : RenderOptions} {a : RunPlace} {u : Around} {t : Task} {p q : Standing} {m n : ℕ} {has : Bool} (i : ℕ) (x y : Tree)
    → InCourse o a u t p m → Asks has o t p.tasks (state_at p) m n → IsChoice (step_from o t p) i x y → q ≡ p
    → ComesToChoice o a u i x y q n
course_choice {o} {a} {u} {t} {p} {q} {m} {n} i x y h asks choice same =
    let count : m ≡ n =
    omega (arith, asks.rises, asks.most, choice_asks o t.tree t.indent t.mode p.tasks (state_at p) (nodes p.tasks) i x y choice) in
    subst (λ (z : Standing). ComesToChoice o a u i x y z n) (sym same)
    (subst (λ (z : ℕ). ComesToChoice o a u i x y p z) count
    (record {
      task = t;
      comes = h.comes;
      chooses = record { task = t; next = refl; own = h.own; within = h.within; chooses = choose_is (step_from o t p) i x y choice };
    }))

-- its visit is refused memory
pub course_refused : {o : RenderOptions} {a : RunPlace} {u : Around} {t : Task} {p : Standing} {m n : ℕ} {has : Bool} → InCourse o a u t p m
    → u.has ≡ has → AsksInPart has o t p.tasks (state_at p) m n → StopsInPart o a n u.refused
course_refused {o} {a} {u} {t} {p} {m} {n} h same asks = record {
  at = place_with t p m u;
  comes = h.comes;
  part = inr (record {
    task = t;
    below = p.tasks;
    next = refl;
    own = h.own;
    within = λ needs. h.within;
    asks = subst (λ (z : Bool). AsksInPart z o t p.tasks (state_at p) m n) (sym same) asks;
  });
  refusals = refl;
}

-- ---- Texts

-- a node that is laid flat asks no probe, and gives way to these tasks
flat_visit : {o : RenderOptions} {u : Around} {t : Task} {ts us : List Task} {st v : State} {k : ℕ} → HasOwn u.trials (t ∷ ts)
    → StepLeadsTo (step_at o t ts st) ts us v → each_probe t.tree t.mode ≡ 0 → asked t.tree t.mode (nodes ts) ≡ 0
    → Comes o (place (t ∷ ts) st k u) (place us v k u)
flat_visit {o} {u} {t} {ts} {us} {st} {v} {k} own leads unasked none =
    come_by Visit (record {
      task = t;
      below = ts;
      next = refl;
      own = own;
      within = λ needs. absurd (omega (arith, needs, unasked));
      leads = leads;
      asks = record { rises = omega arith; most = omega arith; exact = λ needs. absurd (omega (arith, needs, unasked)) };
      same = refl;
    })

text_visit : {o : RenderOptions} {u : Around} {ts : List Task} {st : State} {k : ℕ} (i : ℕ) (s : List ℕ)
    → HasOwn u.trials (make_task i Flat (Text s) ∷ ts)
    → Comes o (place (make_task i Flat (Text s) ∷ ts) st k u) (place ts (after_texts o (Text s) st) k u)
text_visit i [] own = flat_visit own (refl, refl) refl refl
text_visit i (c ∷ cs) own = flat_visit own (refl, refl) refl refl

-- documents that are their texts are laid, node by node
pub texts_come : {o : RenderOptions} {u : Around} {k : ℕ} (i : ℕ) (d : Tree) (ts : List Task) (st : State) → IsTexts d
    → HasOwn u.trials (make_task i Flat d ∷ ts)
    → Comes o (place (make_task i Flat d ∷ ts) st k u) (place ts (after_texts o d st) k u)
texts_come i Nil ts st h own = flat_visit own (refl, refl) refl refl
texts_come i (Text s) ts st h own = text_visit i s own
texts_come {o} {u} i (Append l r) ts st h own =
    let one : Task = make_task i Flat l in
    let two : Task = make_task i Flat r in
    let old : List Task = make_task i Flat (Append l r) ∷ ts in
    come_then (flat_visit {us = one ∷ two ∷ ts} own (refl, refl) refl refl)
    (come_then
    (texts_come i l (two ∷ ts) st h.0 (own_long u.trials old (one ∷ two ∷ ts) (omega arith) own))
    (texts_come i r ts (after_texts o l st) h.1 (own_long u.trials old (two ∷ ts) (omega arith) own)))
texts_come {o} {u} i (Nest z d) ts st h own =
    let j = nested i z in
    come_then (flat_visit {us = make_task j Flat d ∷ ts} own (refl, refl) refl refl)
    (texts_come j d ts st h (own_long u.trials (make_task i Flat (Nest z d) ∷ ts) (make_task j Flat d ∷ ts) (omega arith) own))
texts_come {o} {u} i (BreakOrFlat b d) ts st h own =
    come_then (flat_visit {us = make_task i Flat d ∷ ts} own (refl, refl) refl refl)
    (texts_come i d ts st h (own_long u.trials (make_task i Flat (BreakOrFlat b d) ∷ ts) (make_task i Flat d ∷ ts) (omega arith) own))
texts_come {o} {u} i (Group d) ts st h own =
    come_then (flat_visit {us = make_task i Flat d ∷ ts} own (refl, refl) refl refl)
    (texts_come i d ts st h (own_long u.trials (make_task i Flat (Group d) ∷ ts) (make_task i Flat d ∷ ts) (omega arith) own))
texts_come i _ ts st h own = absurd h

-- the document that a step led to is laid as its texts
pub course_laid : {o : RenderOptions} {a : RunPlace} {u : Around} {i m n : ℕ} {d : Tree} {p : Standing} (q : Standing) → IsTexts d
    → InCourse o a u (make_task i Flat d) p m → q.tasks ≡ p.tasks → state_at q ≡ after_texts o d (state_at p) → n ≡ m
    → Comes o a (place_at q n u)
course_laid {o} {a} {u} {i} {m} {d} {p} q texts h tasks state count =
    subst (λ (z : RunPlace). Comes o a z) (λ j. place (sym tasks j) (sym state j) (sym count j) u)
    (come_then h.comes (texts_come i d p.tasks (state_at p) texts h.own))
