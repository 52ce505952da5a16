use Rattle.std.proofs.Common.{refl, false}
use Rattle.toml_formatter.proofs.PressLemmas.{none_laid}
use Rattle.toml_formatter.proofs.document.Laid.new.Goals as goal

pub returns : goal.returns
returns c =
    none_laid c.args.press.now (record { sheet = c.new.result; lines = c.new-2.result; some = false; blank = false }) c.requires
    c.new.ensures.align refl refl c.new.ensures.sheet
