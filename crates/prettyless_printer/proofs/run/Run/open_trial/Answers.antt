use Rattle.std.specs.Prelude.{OnOk, Result, Ok, Err}
use Rattle.prettyless_printer.proofs.Chains.{all_held-push}
use Rattle.prettyless_printer.proofs.run.Run.open_trial.Goals as goal

always : {T E P : Type 0} (r : Result T E) → P → OnOk r P
always {T} {E} {P} (Ok x) p = p
always {T} {E} {P} (Err e) p = tt

-- the trial is held, whether or not there was room for its branch
pub returns-clause-held : goal.returns-clause-held
returns-clause-held g c =
    always c.push-2.result (record {
      mark = c.mark_of-mark.result;
      marks = c.mark_of-mark.ensures;
      more = all_held-push g.N.Walk.tree _ _ _ c.in_ok-push.ensures.items;
    })
