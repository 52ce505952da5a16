use Rattle.std.proofs.Common.{◌≡◌, sym, ap, subst, ◌∙◌, ℕ, Bool, true, false, cond, List, take, length, min, arith}
use Rattle.std.specs.Prelude.{Option, Some, None, nat_lt}
use Rattle.std.proofs.lemmas.List.{take_min}
use Rattle.text_lexemes.specs.Places.{IsPlace}
use Rattle.text_lexemes.specs.declared.place.Place.{Place}
use Rattle.toml_grammar.specs.Opened.{innermost_opened, opened_in}
use Rattle.toml_grammar.specs.Refusals.{IsMissed, is_missed}
use Rattle.toml_grammar.specs.declared.fault.Fault.{Fault}
use Rattle.toml_grammar.specs.declared.opened.Opened.{Opened}
use Rattle.toml_grammar.proofs.refusal.missed_at.Goals as goal

-- the answer where an opened bracket is known, which is missed or not; its place is within the text or past it
answered : (text bytes : List ℕ) (fault : Fault) (o : Option Opened) (opened : Opened) (cut : ℕ) (place here : Place) (missed : Bool)
    → bytes ≡ text → o ≡ Some opened → cut ≡ min opened.offset (length bytes)
    → IsPlace (take cut bytes) place → IsPlace (take fault.offset bytes) here
    → is_missed opened.bracket fault.found fault.expected (nat_lt place.line here.line) ≡ missed
    → IsMissed text fault o (cond missed (Some place) None)
answered text bytes fault o opened cut place here missed same is cuts at at_fault test =
    subst (λ (p : Option Opened). IsMissed text fault p (cond missed (Some place) None)) (sym is)
    (record {
      place = place;
      at = subst (λ (s : List ℕ). IsPlace s place)
          (ap (λ (n : ℕ). take n bytes) cuts ∙ take_min opened.offset bytes ∙ ap (λ (b : List ℕ). take opened.offset b) same) at;
      here = here;
      fault_at = subst (λ (s : List ℕ). IsPlace (take fault.offset s) here) same at_fault;
      is = ap (λ (b : Bool). cond b (Some place) None) (sym test);
    })

pub returns-then-is_missed : goal.returns-then-is_missed
returns-then-is_missed c = λ is.
    answered c.args.text.now c.as_bytes-bytes.result.now c.args.fault (innermost_opened (opened_in is.before)) c.in-Some.opened c.min.result
    c.place_at-place.result c.place_at.result true c.as_bytes-bytes.ensures.value (sym (c.in_ok-opened.ensures is) ∙ c.in-Some.is)
    (omega (arith, c.min.ensures)) c.place_at-place.ensures c.place_at.ensures (sym c.is_missed.ensures ∙ c.if-is_missed.true)

pub returns-else-is_missed : goal.returns-else-is_missed
returns-else-is_missed c = λ is.
    answered c.args.text.now c.as_bytes-bytes.result.now c.args.fault (innermost_opened (opened_in is.before)) c.in-Some.opened c.min.result
    c.place_at-place.result c.place_at.result false c.as_bytes-bytes.ensures.value (sym (c.in_ok-opened.ensures is) ∙ c.in-Some.is)
    (omega (arith, c.min.ensures)) c.place_at-place.ensures c.place_at.ensures (sym c.is_missed.ensures ∙ c.if-is_missed.false)
