use Rattle.std.proofs.Common.{ap, ◌∙◌, ◌≡◌, inl, inr, refl, sym, map, subst, List, [], true, take, drop, arith, codes, Result, Ok, Err}
use Rattle.std.specs.Prelude.{IfErr, MatchResult}
use Rattle.std.proofs.lemmas.Result.{IfOk-weaker}
use Rattle.clap.specs.Words.{App, HasKind, Kinds, Row, app_of, fault_of, found_of, is_simple, is_simple_and_free, matches_of, rows_of}
use Rattle.clap.specs.declared.error.Error.{Error}
use Rattle.jsonfmt.specs.Words.{AsksForJson, AsksForNothing, IsErrorFor, IsErrorOf, faults, jsonfmt, matches, most_levels}
use Rattle.formatter_files.specs.Faults.{IsRequestError, IsOutOfMemory}
use Rattle.formatter_files.specs.declared.request_error.RequestError.{RequestError}
use Rattle.formatter_files.proofs.Faults.{IsRequestError-weaker, MatchResult-made, fault_of_words}
use Rattle.formatter_files.specs.Words.{most_64, number_rule}
use Rattle.formatter_files.proofs.Given.{IsOnly, IsSimpleProgram, number_given, only_one}
use Rattle.jsonfmt.proofs.request.requested.Goals as goal

simple : is_simple jsonfmt ≡ true
simple = refl

free : is_simple_and_free jsonfmt ≡ true
free = refl

simply : IsSimpleProgram jsonfmt
simply = record { plain = refl; simple = refl }

-- the options that take numbers alone have their ids
only_width : IsOnly jsonfmt.top.rules (codes "width") most_64
only_width =
    only_one (codes "width") most_64 (number_rule (codes "width") most_64) (refl, refl) [] (drop 1 jsonfmt.top.rules) refl refl

only_depth : IsOnly jsonfmt.top.rules (codes "depth") most_levels
only_depth =
    let rules = jsonfmt.top.rules in
    only_one (codes "depth") most_levels (number_rule (codes "depth") most_levels) (refl, refl) (take 6 rules) (drop 7 rules) refl refl

pub asked-requires-clause-width : goal.asked-requires-clause-width
asked-requires-clause-width g c =
    number_given jsonfmt simply c.in_ok-command.field-0 c.in_ok-matches.matches c.in_ok-matches.ensures.parsed c.in_ok-command.ensures
    (codes "width") most_64 only_width (λ e. omega (arith, e)) (λ e. omega (arith, e)) (λ e. omega (arith, e))

pub asked-requires-clause-depth : goal.asked-requires-clause-depth
asked-requires-clause-depth g c =
    number_given jsonfmt simply c.in_ok-command.field-0 c.in_ok-matches.matches c.in_ok-matches.ensures.parsed c.in_ok-command.ensures
    (codes "depth") most_levels only_depth (λ e. omega (arith, e)) (λ e. omega (arith, e)) (λ e. omega (arith, e))

pub returns-clause-ok : goal.returns-clause-ok
unfolding matches
returns-clause-ok g c =
    let words = map g.S.AsStr.text c.args.words.now in
    let rows = (c.in_ok-matches.ensures.matches (ap is_simple c.in_ok-command.ensures ∙ simple)).0
    ∙ ap (λ (a : App). matches_of a words) c.in_ok-command.ensures in
    IfOk-weaker c.asked.result _ _ (λ asked h. subst (λ (found : List Row). AsksForJson found asked) rows h) c.asked.ensures.ok

-- by what is said of an error
answered : {T : Type 0} (r : Result T RequestError) (P : Type 0) (Q R : RequestError → Type 0) → P → ((e : RequestError) → Q e → R e)
    → IfErr r Q → MatchResult r (λ _. P) R
answered (Ok x) P Q R p f h = p
answered (Err e) P Q R p f h = f e h

pub returns-clause-err : goal.returns-clause-err
unfolding faults matches
returns-clause-err g c =
    let words = map g.S.AsStr.text c.args.words.now in
    let found = rows_of (found_of c.in_ok-matches.matches) in
    let rows = (c.in_ok-matches.ensures.matches (ap is_simple c.in_ok-command.ensures ∙ simple)).0
    ∙ ap (λ (a : App). matches_of a words) c.in_ok-command.ensures in
    let none = ap (λ (a : App). fault_of a words) (sym c.in_ok-command.ensures) ∙ c.in_ok-matches.ensures.kinds
    (ap is_simple_and_free c.in_ok-command.ensures ∙ free) in
    let own : (e : Error) → IsErrorFor found e → IsErrorOf words e = λ e says. elim says [
      | inl memory ↦ inl (inl memory)
      | inr nothing ↦ inr (subst (λ (rs : List Row). AsksForNothing rs e) rows nothing)
    ] in
    answered c.asked.result _ _ _ none
    (λ e says. subst (λ (rs : List Row). IsRequestError (IsErrorOf words) rs e) rows
    (IsRequestError-weaker (IsErrorFor found) (IsErrorOf words) own found e says))
    c.asked.ensures.err

pub returns-in_err-matches-clause-err : goal.returns-in_err-matches-clause-err
unfolding faults matches
returns-in_err-matches-clause-err g c =
    let words = map g.S.AsStr.text c.args.words.now in
    let has : HasKind (fault_of (app_of c.in_ok-command.field-0) words) c.in_err-matches.field-0.0
    = c.in_err-matches.ensures.kinds (ap is_simple_and_free c.in_ok-command.ensures ∙ free) in
    let here = ap (λ (a : App). fault_of a words) c.in_ok-command.ensures in
    let own : IsErrorOf words c.in_err-matches.field-0.0
    = inl (subst (λ (kinds : Kinds). HasKind kinds c.in_err-matches.field-0.0) here has) in
    MatchResult-made c.from_residual-in_err-matches.result _ _ c.from_residual-in_err-matches.ensures.1
    (λ e made. subst (λ (x : RequestError). IsRequestError (IsErrorOf words) (matches words) x) (sym made) own)

pub returns-in_err-command-clause-err : goal.returns-in_err-command-clause-err
returns-in_err-command-clause-err g c =
    let words = map g.S.AsStr.text c.args.words.now in
    MatchResult-made c.from_residual.result _ _ c.from_residual.ensures.1
    (λ e made. fault_of_words IsOutOfMemory (IsErrorOf words) (λ x memory. inl (inl memory)) (matches words) e made)
