use Rattle.std.proofs.Common.{◌≡◌, ◌∷◌, [], ◌∙◌, true, ap, arith, refl, drop}
use Rattle.std.proofs.lemmas.List.{drop_all}
use Rattle.prettyless_model.specs.declared.mode.Mode.TheVariants.{Break}
use Rattle.prettyless_probe.specs.Stack.{make_task, trees}
use Rattle.prettyless_printer.proofs.DueQueues.{empty_start}
use Rattle.prettyless_printer.proofs.render.run_before.Goals as goal

pub returns-clause-begins : goal.returns-clause-begins
returns-clause-begins g c =
    let f = g.N.Walk.tree in
    let start = c.new-4.result.start in
    let n : drop start (trees f c.new-4.result.nodes.items) ≡ [] = ap (λ x. drop start (trees f x)) c.new-4.ensures
    ∙ drop_all start [] (omega arith) in
    record {
      options = refl;
      tasks = c.in_ok-push.ensures.pushed ∙ ap (λ x. make_task 0 Break (f c.args.node) ∷ x) c.new.ensures.empty;
      state = λ j. record { column = c.start.ensures j; pending = n j; within = true };
      queue = ap (trees f) c.new-4.ensures;
    }

pub returns-clause-start : goal.returns-clause-start
returns-clause-start g c = empty_start c.new-4.result c.new-4.ensures
