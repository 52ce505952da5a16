use Rattle.std.proofs.Common.{◌∙◌, ap, arith}
use Rattle.prettyless_printer.specs.declared.trial.OpenTrial.{OpenTrial}
use Rattle.prettyless_printer.proofs.Chains.{below_index}
use Rattle.prettyless_printer.proofs.trial.Trials.below.Goals as goal

pub returns : goal.returns
returns g c =
    ap (λ (u : OpenTrial _). u.mark.commands) c.index.ensures
    ∙ below_index g.N.Walk.tree c.args.self.now.«open».items _ c.index.result.now
    (omega (arith, c.requires, c.len.ensures, c.args.self.now.«open».ok.0))
