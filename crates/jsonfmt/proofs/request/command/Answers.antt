use Rattle.std.proofs.Common.{rules, ap, ap₂, ◌∙◌, ◌≡◌, codes}
use Rattle.std.proofs.lemmas.Result.{IfOk-weaker}
use Rattle.clap.specs.Words.{rule_of, with_rule}
use Rattle.formatter_files.specs.Words.{flag, number_rule, with_files, with_letter, with_width}
use Rattle.jsonfmt.specs.Words.{indent_rule, most_levels, word_rule}
use Rattle.jsonfmt.proofs.request.command.Goals as goal

pub returns : goal.returns
returns c =
    let indent : rule_of c.lettered-indent.result ≡ indent_rule =
    c.lettered-indent.ensures.rule ∙ ap (with_letter 105) c.word-columns.ensures.rule in
    let fill : rule_of c.word-fill.result ≡ word_rule (codes "fill") = search rules in
    let blank_lines : rule_of c.flag-blank_lines.result ≡ flag (codes "keep-blank-lines") = search rules in
    let line_end : rule_of c.word-line_end.result ≡ word_rule (codes "line-ending") = search rules in
    let compact : rule_of c.flag-compact.result ≡ flag (codes "compact") = search rules in
    let depth : rule_of c.number-depth.result ≡ number_rule (codes "depth") most_levels = search rules in
    let width = c.in_ok-command.ensures ∙ ap with_width c.program.ensures in
    let with_indent = c.in_ok-with_indent.ensures.shape (c.lettered-indent.ensures.local ∙ c.word-columns.ensures.local)
    ∙ ap₂ with_rule width indent in
    let with_fill = c.in_ok-with_fill.ensures.shape (search rules) ∙ ap₂ with_rule with_indent fill in
    let with_blank_lines = c.in_ok-with_blank_lines.ensures.shape (search rules) ∙ ap₂ with_rule with_fill blank_lines in
    let with_line_end = c.in_ok-with_line_end.ensures.shape (search rules) ∙ ap₂ with_rule with_blank_lines line_end in
    let with_compact = c.in_ok-with_compact.ensures.shape (search rules) ∙ ap₂ with_rule with_line_end compact in
    let lines : rule_of c.flag-lines.result ≡ flag (codes "lines") = search rules in
    let with_depth = c.in_ok-with_depth.ensures.shape (search rules) ∙ ap₂ with_rule with_compact depth in
    let with_lines = c.in_ok-arg.ensures.shape (search rules) ∙ ap₂ with_rule with_depth lines in
    IfOk-weaker c.with_files.result _ _ (λ made h. h ∙ ap with_files with_lines) c.with_files.ensures
