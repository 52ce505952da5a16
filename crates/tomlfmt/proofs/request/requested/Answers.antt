use Rattle.std.proofs.Common.{ap, ◌∙◌, ◌≡◌, refl, sym, map, subst, inl, List, true, Result, Ok, Err}
use Rattle.std.specs.Prelude.{IfErr, MatchResult}
use Rattle.std.proofs.lemmas.Result.{IfOk-weaker}
use Rattle.clap.specs.Words.{App, HasKind, Kinds, Row, app_of, fault_of, found_of, is_simple, is_simple_and_free, matches_of, rows_of}
use Rattle.formatter_files.specs.Faults.{IsRequestError, IsOutOfMemory}
use Rattle.formatter_files.specs.declared.request_error.RequestError.{RequestError}
use Rattle.tomlfmt.specs.Words.{AsksForToml, tomlfmt_faults, tomlfmt, tomlfmt_matches}
use Rattle.formatter_files.proofs.Faults.{IsRequestError-weaker, MatchResult-made, fault_of_words}
use Rattle.formatter_files.proofs.Given.{TakesNumbers, indent_given, width_given}
use Rattle.tomlfmt.proofs.request.requested.Goals as goal

simple : is_simple tomlfmt ≡ true
simple = refl

free : is_simple_and_free tomlfmt ≡ true
free = refl

takes : TakesNumbers tomlfmt
takes = record { others = _; rules = refl; differ = refl; plain = refl; simple = refl }

pub asked-requires-clause-width : goal.asked-requires-clause-width
asked-requires-clause-width g c =
    width_given tomlfmt takes c.in_ok-command.field-0 c.in_ok-matches.matches c.in_ok-matches.ensures.parsed c.in_ok-command.ensures

pub asked-requires-clause-indent : goal.asked-requires-clause-indent
asked-requires-clause-indent g c =
    indent_given tomlfmt takes c.in_ok-command.field-0 c.in_ok-matches.matches c.in_ok-matches.ensures.parsed c.in_ok-command.ensures

pub returns-clause-ok : goal.returns-clause-ok
unfolding tomlfmt_matches
returns-clause-ok g c =
    let words = map g.S.AsStr.text c.args.words.now in
    let rows = (c.in_ok-matches.ensures.matches (ap is_simple c.in_ok-command.ensures ∙ simple)).0
    ∙ ap (λ (a : App). matches_of a words) c.in_ok-command.ensures in
    IfOk-weaker c.asked.result _ _ (λ asked h. subst (λ (found : List Row). AsksForToml found asked) rows h) c.asked.ensures.ok

-- by what is said of an error
answered : {T : Type 0} (r : Result T RequestError) (P : Type 0) (Q R : RequestError → Type 0) → P → ((e : RequestError) → Q e → R e)
    → IfErr r Q → MatchResult r (λ _. P) R
answered (Ok x) P Q R p f h = p
answered (Err e) P Q R p f h = f e h

pub returns-clause-err : goal.returns-clause-err
unfolding tomlfmt_faults tomlfmt_matches
returns-clause-err g c =
    let words = map g.S.AsStr.text c.args.words.now in
    let rows = (c.in_ok-matches.ensures.matches (ap is_simple c.in_ok-command.ensures ∙ simple)).0
    ∙ ap (λ (a : App). matches_of a words) c.in_ok-command.ensures in
    let none = ap (λ (a : App). fault_of a words) (sym c.in_ok-command.ensures) ∙ c.in_ok-matches.ensures.kinds
    (ap is_simple_and_free c.in_ok-command.ensures ∙ free) in
    answered c.asked.result _ _ _ none
    (λ e says. subst (λ (found : List Row). IsRequestError (HasKind (fault_of tomlfmt words)) found e) rows
    (IsRequestError-weaker IsOutOfMemory (HasKind (fault_of tomlfmt words)) (λ x memory. inl memory)
    (rows_of (found_of c.in_ok-matches.matches)) e says))
    c.asked.ensures.err

pub returns-in_err-matches-clause-err : goal.returns-in_err-matches-clause-err
unfolding tomlfmt_faults tomlfmt_matches
returns-in_err-matches-clause-err g c =
    let words = map g.S.AsStr.text c.args.words.now in
    let has : HasKind (fault_of (app_of c.in_ok-command.field-0) words) c.in_err-matches.field-0.0
    = c.in_err-matches.ensures.kinds (ap is_simple_and_free c.in_ok-command.ensures ∙ free) in
    let here = ap (λ (a : App). fault_of a words) c.in_ok-command.ensures in
    let own = subst (λ (kinds : Kinds). HasKind kinds c.in_err-matches.field-0.0) here has in
    MatchResult-made c.from_residual-in_err-matches.result _ _ c.from_residual-in_err-matches.ensures.1
    (λ e made. subst (λ (x : RequestError). IsRequestError (HasKind (fault_of tomlfmt words)) (matches_of tomlfmt words) x) (sym made) own)

pub returns-in_err-command-clause-err : goal.returns-in_err-command-clause-err
unfolding tomlfmt_faults tomlfmt_matches
returns-in_err-command-clause-err g c =
    let words = map g.S.AsStr.text c.args.words.now in
    MatchResult-made c.from_residual.result _ _ c.from_residual.ensures.1
    (λ e made. fault_of_words IsOutOfMemory (HasKind (fault_of tomlfmt words)) (λ x memory. inl memory) (matches_of tomlfmt words) e made)
