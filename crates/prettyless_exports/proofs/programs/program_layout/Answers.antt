use Rattle.prettyless_exports.proofs.Numbered.{answers}
use Rattle.prettyless_exports.proofs.programs.program_layout.Goals as goal

pub returns : goal.returns
returns c =
    rw c.number.ensures (answers _ _ c.args.program.now c.args.out.now c.laid_out.new.out c.laid_out.new.written c.laid_out.result
    (rw (c.options_from-options.ensures, c.limit_from.ensures) at c.laid_out.ensures))
