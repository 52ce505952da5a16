use Rattle.std.proofs.Common.{arith, sym, ◌∙◌}
use Rattle.prettyless_table.proofs.Cells.{second_past, second_read}
use Rattle.prettyless_table.proofs.table.Table.second.Goals as goal

pub returns-then-at-len : goal.returns-then-at-len
returns-then-at-len g c = sym (second_past c.args.self.now.cells.items c.args.at (omega (arith, c.if-at-len.true, c.len.ensures)))

pub returns : goal.returns
returns g c =
    c.second.ensures
    ∙ second_read c.args.self.now.cells.items c.args.at c.index.result.now (omega (arith, c.if-at-len.false, c.len.ensures)) c.index.ensures
