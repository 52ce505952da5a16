use Rattle.std.proofs.Common.{ap, ap₂, ◌∙◌, ◌≡◌, codes}
use Rattle.std.proofs.lemmas.Result.{IfOk-weaker}
use Rattle.clap.specs.Words.{AddsArg, rule_of, with_rule}
use Rattle.clap.specs.declared.builder.command.Command.{Command}
use Rattle.formatter_files.specs.Words.{flag, with_letter}
use Rattle.formatter_files.proofs.words.with_files.Goals as goal

pub returns : goal.returns
returns c =
    let check : rule_of c.lettered.result ≡ with_letter 99 (flag (codes "check")) =
    c.lettered.ensures.rule ∙ ap (with_letter 99) c.flag.ensures.rule in
    let diff : rule_of c.lettered-2.result ≡ with_letter 100 (flag (codes "diff")) =
    c.lettered-2.ensures.rule ∙ ap (with_letter 100) c.flag-2.ensures.rule in
    let write : rule_of c.lettered-3.result ≡ with_letter 119 (flag (codes "write")) =
    c.lettered-3.ensures.rule ∙ ap (with_letter 119) c.flag-3.ensures.rule in
    let one = c.in_ok-arg.ensures.shape (c.lettered.ensures.local ∙ c.flag.ensures.local) ∙ ap (with_rule _) check in
    let two = c.in_ok-arg-2.ensures.shape (c.lettered-2.ensures.local ∙ c.flag-2.ensures.local) ∙ ap₂ with_rule one diff in
    let three = c.in_ok-arg-3.ensures.shape (c.lettered-3.ensures.local ∙ c.flag-3.ensures.local) ∙ ap₂ with_rule two write in
    let four = c.in_ok-arg-4.ensures.shape c.flag-4.ensures.local ∙ ap₂ with_rule three c.flag-4.ensures.rule in
    IfOk-weaker c.arg-5.result _ _ (λ (made : Command) (h : AddsArg c.in_ok-arg-4.field-0 c.files.result made).
    h.shape c.files.ensures.local ∙ ap₂ with_rule four c.files.ensures.rule) c.arg-5.ensures
