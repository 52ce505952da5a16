use Rattle.std.proofs.Common.{◌≡◌, ◌+◌, ◌-◌, ◌<◌, ◌++◌, true, length, take, drop, get_or, refl, sym, ap, ◌∙◌, subst, arith}
use Rattle.toml_lexemes.specs.Bytes.{is_blank}
use Rattle.toml_lexemes.specs.SpacedLexemes.{blanks}
use Rattle.text_lexemes.proofs.Firsts.{one_blank, stops_blanks, ends_blanks, past_blank}
use Rattle.toml_lexemes.specs.Lexemes.{toml}
use Rattle.toml_lexemes.proofs.Bytes.{blank_ascii}
use Rattle.toml_lexemes.proofs.cut.blanks_end.Goals as goal

pub loop-place-preserved : goal.loop-place-preserved
loop-place-preserved c =
    let d = c.args.bytes.now in
    let place = c.loop-place.place in
    let blank : is_blank (get_or d place 0) ≡ true = sym c.is_blank.ensures ∙ c.if-not-is_blank.false in
    let last : place ≡ place + 1 - 1 = omega arith in
    record {
      same = past_blank toml d place (omega arith) blank ∙ c.loop-place.invariant.same;
      blanks = one_blank toml d c.args.from place (omega arith) (omega arith) blank c.loop-place.invariant.blanks;
      after = λ h. subst (λ k. get_or d k 0 < 128) last (blank_ascii (get_or d place 0) blank);
    }

pub loop-place-init : goal.loop-place-init
loop-place-init c =
    let d = c.args.bytes.now in
    let none : 0 ≡ c.args.from - c.args.from = omega arith in
    record {
      same = refl;
      blanks = ap (λ n. take n (drop c.args.from d) ++ blanks (drop c.args.from d)) none;
      after = λ h. absurd (omega arith);
    }

pub returns-then-not-is_blank-clause-blanks : goal.returns-then-not-is_blank-clause-blanks
returns-then-not-is_blank-clause-blanks c =
    stops_blanks toml c.args.bytes.now c.args.from c.loop-place.place (omega arith) (omega arith)
    (sym c.is_blank.ensures ∙ c.if-not-is_blank.true) c.loop-place.invariant.blanks

pub returns-clause-blanks : goal.returns-clause-blanks
returns-clause-blanks c =
    let d = c.args.bytes.now in
    let all : c.loop-place.place ≡ length d = omega arith in
    subst (λ k. blanks (drop c.args.from d) ≡ take (k - c.args.from) (drop c.args.from d)) all
    (ends_blanks toml d c.args.from c.loop-place.place (omega arith) (omega arith) c.loop-place.invariant.blanks)
