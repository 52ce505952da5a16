use Rattle.std.proofs.Common.{◌≡◌, ℕ, zero, suc, ◌+◌, ◌<◌, List, [], ◌∷◌, ◌++◌, ◌∙◌, ap, append_assoc, arith, drop, get_or, length, map}
use Rattle.std.proofs.Common.{sym}
use Rattle.std.proofs.lemmas.List.{drop_more, map-append}
use Rattle.prettyless_model.specs.Tree.{Tree, Nil}
use Rattle.prettyless_table.specs.Cells.{tree_at}
use Rattle.prettyless_table.specs.declared.placed.Placed.{Placed}
use Rattle.prettyless_printer.specs.Open.{all_held, held, seconds}
use Rattle.prettyless_printer.proofs.shift.placed_trials.Goals as goal

-- the trees that are left after the first of them
tail_of : (g : ℕ → Tree) (ps : List ℕ) (k : ℕ) (d : Tree) (ds : List Tree) → map g (drop k ps) ≡ d ∷ ds
    → (map g (drop (suc k) ps) ≡ ds) × (g (get_or ps k 0) ≡ d)
tail_of g [] zero d ds e = cc
tail_of g [] (suc k) d ds e = cc
tail_of g (p ∷ ps) zero d ds e = (ap (λ (ts : List Tree). drop 1 ts) e, ap (λ (ts : List Tree). get_or ts 0 Nil) e)
tail_of g (p ∷ ps) (suc k) d ds e = tail_of g ps k d ds e

pub trials-preserved : goal.trials-preserved
trials-preserved g c =
    let f = g.N.Walk.tree in
    let all = c.args.trials.now.open.items in
    let trial = c.index-trial.result.now in
    let later = drop (c.trials.k + 1) all in
    let placed = c.trials.placed.open.items in
    let within : c.trials.k < length all = omega (arith, c.trials-test.true, c.len.ensures) in
    let read : drop c.trials.k all ≡ trial ∷ later =
    drop_more all c.trials.k trial within ∙ ap (λ u. u ∷ later) (sym c.index-trial.ensures) in
    let left = tail_of (tree_at f c.args.table.now.cells.items) c.args.places.now c.trials.k (f trial.second) (seconds (all_held f later))
    (c.trials.invariant.left ∙ ap (λ us. seconds (all_held f us)) read) in
    let next : c.trials.k + 1 ≡ suc c.trials.k = omega arith in
    let node : f c.node.result.node ≡ f trial.second = c.node.ensures ∙ left.1 in
    record {
      within = omega (arith, within);
      left = ap (λ (n : ℕ). map (tree_at f c.args.table.now.cells.items) (drop n c.args.places.now)) next ∙ left.0;
      same = ap (λ us. all_held (λ (p : Placed _ _). f p.node) us ++ all_held f later) c.in_ok-push.ensures.items
          ∙ ap (λ us. us ++ all_held f later) (map-append (held (λ (p : Placed _ _). f p.node)) placed _)
          ∙ append_assoc (all_held (λ (p : Placed _ _). f p.node) placed) _ (all_held f later)
          ∙ ap (λ (d : Tree). all_held (λ (p : Placed _ _). f p.node) placed
          ++ record { mark = trial.mark; indent = trial.indent; second = d } ∷ all_held f later) node
          ∙ ap (λ us. all_held (λ (p : Placed _ _). f p.node) placed ++ all_held f us) (sym read)
          ∙ c.trials.invariant.same;
    }
