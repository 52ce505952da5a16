use Rattle.std.proofs.Common.{rules, ap, ap₂, ◌∙◌, ◌≡◌, codes}
use Rattle.std.proofs.lemmas.Result.{IfOk-weaker}
use Rattle.clap.specs.Words.{rule_of, with_rule}
use Rattle.formatter_files.specs.Words.{flag, with_files, with_numbers}
use Rattle.tomlfmt.proofs.request.command.Goals as goal

pub returns : goal.returns
returns c =
    let no_align : rule_of c.flag-no_align.result ≡ flag (codes "no-align") = search rules in
    let numbers = c.in_ok-command.ensures ∙ ap with_numbers c.program.ensures in
    let with_no_align = c.in_ok-arg.ensures.shape (search rules) ∙ ap₂ with_rule numbers no_align in
    IfOk-weaker c.with_files.result _ _ (λ made h. h ∙ ap with_files with_no_align) c.with_files.ensures
