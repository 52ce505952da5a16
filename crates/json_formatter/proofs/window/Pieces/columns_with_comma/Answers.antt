use Rattle.std.proofs.Common.{sym, ◌∙◌, subst}
use Rattle.json_formatter.specs.Window.{IsWindow}
use Rattle.json_formatter.specs.declared.window.Pieces.TheInside.{Inside}
use Rattle.json_formatter.proofs.WindowScans.{window_anew}
use Rattle.json_formatter.proofs.window.Pieces.columns_with_comma.Goals as goal
use Rattle.json_formatter.proofs.window.Pieces.columns_with_comma.Goals.{in-Some+then-measures+in-Err, in_default}

abbrev InOrder : Inside → Type 0
InOrder a = IsWindow a.reader a.scanner a.passed a.here

pub invariant_of-self-2 : goal.invariant_of-self-2
invariant_of-self-2 c = elim c.match-self.branch [
  | in-Some+then-measures+in-Err w ↦
      let new = w.restart.ensures in
      subst InOrder (sym w.self-inside-is) (window_anew _ _ (new.pieces ∙ w.again.ensures) new.lists new.unclosed)
  | in_default w ↦ subst InOrder (sym w.self-inside-is) c.self.invariant
]
