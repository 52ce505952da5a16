-- A choice that waits is made as its trial came out.
use Rattle.std.proofs.Common.{◌≡◌, ℕ, List, [], ◌∷◌, ◌++◌, refl, ap, sym, ◌∙◌, arith, subst, Ok, Err, true}
use Rattle.std.specs.String.{string_bytes}
use Rattle.std.proofs.lemmas.Str.{IsUtf8-string_bytes}
use Rattle.prettyless_sink.specs.Sink.{Accepts, AppendsBeginning, IfKnown, Refuses, known}
use Rattle.prettyless_sink.specs.declared.error.RenderError.TheVariants.{Memory, Sink}
use Rattle.prettyless_model.specs.Tree.{Tree}
use Rattle.prettyless_model.specs.Layout.{State}
use Rattle.prettyless_probe.specs.Stack.{nodes}
use Rattle.prettyless_step.specs.Steps.{pending_work}
use Rattle.prettyless_printer.specs.declared.run.Run.{Run}
use Rattle.prettyless_printer.specs.Points.{Point, Seen, buffer_seen, point_at, point_of, standing, trial_point}
use Rattle.prettyless_printer.specs.Trials.{TrialError, Tries, make_trial}
use Rattle.prettyless_printer.specs.Open.{BeginsTrial, Undone, Held, Open, Opens, held_of}
use Rattle.prettyless_printer.specs.Paths.{Chooses}
use Rattle.prettyless_printer.specs.Runs.{InChoice, station_of}
use Rattle.prettyless_printer.proofs.Chains.{open_begins}
use Rattle.prettyless_printer.proofs.PathSteps.{choice_refused, choice_unwritten, goes_on_kept, goes_on_other}
use Rattle.prettyless_printer.proofs.TrialSteps.{began_plain}

-- the first branch is kept: what the trial wrote, to a buffer that was empty, is the piece that goes to the sink
pub chooses_kept : {A E D : Type 0} {i : ℕ} {x y : Tree} {a c : Point} {s t out : Seen} {z : A} → known s.bytes ≡ [] →
    Tries {E = D} i x (point_at a.printer s a.visits) (point_at c.printer t c.visits) (Ok true) → out ≡ a.sink
    → c.sink.lender ≡ out.lender →
    Accepts out.bytes c.sink.bytes (known t.bytes) out.failures c.sink.failures → Chooses {A = A} {E = E} i x y a c (Ok z)
chooses_kept {a} {c} {t} empty tries same lender accepts =
    let wrote = subst (λ (u : Seen). Accepts u.bytes c.sink.bytes (known t.bytes) u.failures c.sink.failures) same accepts in
    record {
      work_falls = omega (arith, tries.decided.4, ap nodes tries.decided.0);
      runs = λ run waiting.
          goes_on_kept waiting tries (lender ∙ ap (λ (u : Seen). u.lender) same)
          (λ is_known.
          let e = wrote is_known in
          (e.0, (λ piece put. e.1.0 ∙ ap (λ (u : List ℕ). known a.sink.bytes ++ u) (put ∙ ap (λ (u : List ℕ). u ++ piece) empty), e.1.1)));
    }

-- the sink fails at it
pub chooses_unwritten : {A E D : Type 0} {i : ℕ} {x y : Tree} {a c : Point} {s t out : Seen} {z : E} → known s.bytes ≡ [] →
    Tries {E = D} i x (point_at a.printer s a.visits) (point_at c.printer t c.visits) (Ok true) → out ≡ a.sink
    → c.sink.lender ≡ out.lender →
    Refuses out.bytes c.sink.bytes (known t.bytes) out.failures c.sink.failures → Chooses {A = A} {E = E} i x y a c (Err (Sink z))
chooses_unwritten {a} {c} {t} {z} empty tries same lender refuses =
    let wrote = subst (λ (u : Seen). Refuses u.bytes c.sink.bytes (known t.bytes) u.failures c.sink.failures) same refuses in
    record {
      work_falls = tt;
      runs = λ run waiting.
          choice_unwritten (λ _. ⊥) z waiting tries (lender ∙ ap (λ (u : Seen). u.lender) same)
          (λ is_known.
          let e = wrote is_known in (
            e.0,
            (
              λ piece put. subst (AppendsBeginning (known a.sink.bytes) (known c.sink.bytes))
                  (put ∙ ap (λ (u : List ℕ). u ++ piece) empty) e.1.0,
              e.1.1,
            ),
          ));
    }

-- it is rejected, and the second one comes next
pub chooses_other : {A E D : Type 0} {i : ℕ} {x y : Tree} {a c : Point} {s t : Seen} {z : A} →
    Undone D (make_trial (point_at a.printer s a.visits) i x) y (point_at c.printer t c.visits) → c.sink ≡ a.sink
    → Chooses {A = A} {E = E} i x y a c (Ok z)
chooses_other {a} {s} {t} second same =
    let tries = second.tries in
    record {
      work_falls = omega (
        arith,
        tries.decided.4,
        ap nodes tries.decided.0,
        ap nodes second.tasks,
        ap (λ (u : State). pending_work u.pending) second.state,
      );
      runs = λ run waiting.
          goes_on_other waiting tries
          (record { tasks = second.tasks; state = second.state; options = second.options; grows = second.grows })
          (ap (λ (u : Seen). u.lender) same)
          (subst (λ (u : Seen). IfKnown a.sink.bytes u.bytes
          (λ out new. (known t.bytes ≡ known s.bytes → new ≡ out) × (u.failures ≡ a.sink.failures))) (sym same)
          (λ is_known. (is_known, (λ _. refl, refl))));
    }

-- its trial is refused memory
pub chooses_error : {A E : Type 0} {i : ℕ} {x y : Tree} {a c : Point} {s t : Seen} {z : _} →
    TrialError (make_trial (point_at a.printer s a.visits) i x) (point_at c.printer t c.visits) → c.sink ≡ a.sink
    → Chooses {A = A} {E = E} i x y a c (Err (Memory z))
chooses_error {i} {x} {a} {s} {z} error same = record {
  work_falls = tt;
  runs = λ run waiting.
      choice_refused (λ _. ⊥) z waiting (ap (λ (u : Seen). u.lender) same)
      (subst (λ (u : Seen). IfKnown a.sink.bytes u.bytes (λ out new. (new ≡ out) × (u.failures ≡ a.sink.failures))) (sym same)
      (λ is_known. (is_known, (refl, refl))))
      error.rise (λ plain none. error.at_most (began_plain (make_trial (point_at a.printer s a.visits) i x) plain none));
}

-- its trial is opened by a run whose buffer is empty, and no other one is open
pub choice_opens : {N : Type 0} {f : N → Tree} {i : ℕ} {x y : Tree} {s : Seen} (r q : Run N) → held_of f r ≡ []
    → string_bytes r.buffer.text ≡ [] → q ≡ record r { printer = q.printer; trials = q.trials } →
    Opens f i y (standing f r.printer) (buffer_seen r.buffer) (held_of f r) (held_of f q)
    → BeginsTrial i x (standing f r.printer) (standing f q.printer) → InChoice i x y (point_of f r s) (station_of f q s)
choice_opens {N} {f} {i} {x} {y} {s} r q none empty others opens begun =
    let one : Held = record { mark = opens.mark; indent = i; second = y } in
    let buffer : Seen = buffer_seen r.buffer in
    let start : Point = trial_point f r in
    let alone : held_of f q ≡ one ∷ [] = opens.more ∙ ap (λ (u : List Held). u ++ one ∷ []) none in
    subst (λ (z : Run N). InChoice i x y (point_of f r s) (station_of f z s)) (sym others)
    (record {
      before = buffer;
      empty = empty;
      trials = subst (λ (u : List Held). Open (make_trial start i x) y u (point_at (standing f q.printer) buffer r.visits)) (sym alone)
          (open_begins y (record { marks = opens.marks; is_known = refl; text = IsUtf8-string_bytes r.buffer.text }) begun);
      sink = refl;
    })
