use Rattle.std.proofs.Common.{◌≡◌, ap, subst, ◌∙◌, ◌+◌, ℕ, min, Bool, List, take, length, arith}
use Rattle.std.proofs.lemmas.List.{take_min}
use Rattle.text_lexemes.specs.Places.{IsPlace}
use Rattle.toml_grammar.specs.Expected.{expected_name}
use Rattle.toml_grammar.specs.Opened.{innermost_opened, opened_in}
use Rattle.toml_grammar.specs.Refusals.{is_last, IsOpenedPlace}
use Rattle.toml_grammar.specs.Stops.{stop_of}
use Rattle.toml_grammar.specs.declared.stop.Stop.{Stop}
use Rattle.toml_grammar.proofs.Refused.{opened_within, within_text}
use Rattle.toml_grammar.proofs.refusal.by_fault.Goals as goal

pub returns-clause-names : goal.returns-clause-names
returns-clause-names c =
    let text = c.args.text.now in
    let fault = c.args.fault in
    let bytes = c.as_bytes-bytes.result.now in
    let stop = c.stop_of-stop.result in
    let stops : stop ≡ stop_of fault (is_last text fault) =
    c.stop_of-stop.ensures ∙ ap (λ (b : Bool). stop_of fault b) c.is_last.ensures in
    let cut : c.min.result ≡ min (fault.offset + stop.within) (length bytes) = omega (arith, c.min.ensures, c.saturating_add-offset.ensures) in
    let front : take c.min.result bytes ≡ take (fault.offset + (stop_of fault (is_last text fault)).within) text =
    ap (λ (n : ℕ). take n bytes) cut ∙ take_min (fault.offset + stop.within) bytes
    ∙ (λ i. take (fault.offset + (stops i).within) (c.as_bytes-bytes.ensures.value i)) in
    record {
      fault = fault;
      is = c.requires.is;
      place = subst (λ (s : List ℕ). IsPlace s c.place_at.result) front c.place_at.ensures;
      expected = c.name.ensures ∙ ap (λ (s : Stop). expected_name s.expected) stops;
      found = ap (λ (s : Stop). s.found) stops;
      opened = subst (λ (s : Stop). IsOpenedPlace text fault s.expected (innermost_opened (opened_in c.requires.is.before))
          c.in_ok-opened.opened) stops (c.in_ok-opened.ensures c.requires.is);
    }

pub returns-clause-place : goal.returns-clause-place
returns-clause-place c =
    let names = returns-clause-names c in
    within_text c.args.text.now _ c.place_at.result names.place

pub returns-clause-opened : goal.returns-clause-opened
returns-clause-opened c =
    opened_within c.args.text.now c.args.fault c.stop_of-stop.result.expected
    (innermost_opened (opened_in c.requires.is.before)) c.in_ok-opened.opened (c.in_ok-opened.ensures c.requires.is)
