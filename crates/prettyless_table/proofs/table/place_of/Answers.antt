use Rattle.std.proofs.Common.{sym, ◌∙◌}
use Rattle.prettyless_table.proofs.Standing.{stand_next, stand_small}
use Rattle.prettyless_table.proofs.table.place_of.Goals as goal

pub returns-then-is_small : goal.returns-then-is_small
returns-then-is_small g c = λ cells later h.
    stand_small cells (g.N.Walk.tree c.args.root.now) later c.args.waiting.now.items (sym c.is_small.ensures ∙ c.if-is_small.true) h

pub returns : goal.returns
returns g c = λ cells later h.
    stand_next cells (g.N.Walk.tree c.args.root.now) later c.args.waiting.now.items c.take_place.new.waiting.items c.take_place.result
    (sym c.is_small.ensures ∙ c.if-is_small.false) c.take_place.ensures.taken c.take_place.ensures.left h
