use Rattle.std.proofs.Common.{◌∙◌, ap, ◌+◌, length, sym, subst, take, List, ℕ, arith}
use Rattle.std.specs.String.Boundary.{IsSplitPoint}
use Rattle.json_formatter.proofs.Lines.{line_kept, line_split}
use Rattle.json_formatter.proofs.output.hold_short_line.Goals as goal

pub truncate-requires : goal.truncate-requires
truncate-requires c = (
  omega arith,
  λ le.
      subst (λ (n : ℕ). IsSplitPoint c.push_str.new.self.bytes (n + (c.args.indent + 1))) (sym c.len.ensures.value)
      (subst (λ (l : List ℕ). IsSplitPoint l (length c.args.held.now.bytes + (c.args.indent + 1))) (sym c.push_str.ensures.bytes)
      (line_split c.args.held.now.bytes 31 c.args.indent c.requires.indent)),
)

pub returns : goal.returns
returns c =
    c.truncate.ensures
    ∙ ap (λ (n : ℕ). take (n + (c.args.indent + 1)) c.push_str.new.self.bytes) c.len.ensures.value
    ∙ ap (λ (l : List ℕ). take (length c.args.held.now.bytes + (c.args.indent + 1)) l) c.push_str.ensures.bytes
    ∙ line_kept c.args.held.now.bytes 31 c.args.indent c.requires.indent
