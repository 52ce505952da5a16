use Rattle.std.proofs.Common.{◌≡◌, sym, ◌∙◌, ap, inr, false, true, take, get_or, ◌-◌, arith}
use Rattle.toml_lexemes.specs.Bytes.{is_blank}
use Rattle.toml_lexemes.specs.Statements.{trimmed}
use Rattle.toml_documents.proofs.Trims.{blank_ascii, blank_less, blank_none}
use Rattle.toml_documents.proofs.trim.trimmed.Goals as goal
use Rattle.toml_documents.proofs.trim.trimmed.Goals.{then-loop-end-test+else-is_blank, else-loop-end-test}

pub loop-end-preserved : goal.loop-end-preserved
loop-end-preserved c =
    let d = c.args.text.now in
    let i = c.loop-end.end - 1 in
    let blank : is_blank (get_or d i 0) ≡ true = rw (← c.as_bytes-bytes.ensures.value) (sym c.is_blank.ensures ∙ c.if-is_blank.true) in
    record {
      within = omega arith;
      same = blank_less d c.loop-end.end c.loop-end-test.true c.loop-end.invariant.within blank ∙ c.loop-end.invariant.same;
      boundary = inr (blank_ascii (get_or d i 0) blank);
    }

pub returns : goal.returns
returns c =
    let d = c.args.text.now in
    let n = c.loop-end.end in
    let inv = c.loop-end.invariant in
    let whole : n - 0 ≡ n = omega arith in
    let is : c.range.result.now ≡ take n d = c.range.ensures.value ∙ ap (λ k. take k d) whole in
    elim c.loop-end-test.branch [
      | then-loop-end-test+else-is_blank w ↦
          let plain : is_blank (get_or d (n - 1) 0) ≡ false =
          rw (← c.as_bytes-bytes.ensures.value) (sym w.is_blank.ensures ∙ w.if-is_blank.false) in
          is ∙ sym (blank_none d n w.loop-end-test.true inv.within plain) ∙ inv.same
      | else-loop-end-test w ↦
          let none : n ≡ 0 = omega arith in
          is ∙ ap (λ k. take k d) none ∙ ap trimmed (ap (λ k. take k d) (sym none)) ∙ inv.same
    ]
