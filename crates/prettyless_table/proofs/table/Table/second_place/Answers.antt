use Rattle.std.proofs.Common.{◌∷◌, ℕ, List, ap, get_or, drop, reverse, subst, sym, ◌∙◌}
use Rattle.prettyless_table.specs.Owners.{AreFound}
use Rattle.prettyless_table.specs.Parts.{parts_of}
use Rattle.prettyless_table.proofs.Standing.{found_both, found_first, found_large, found_none, found_nothing, found_one, found_second}
use Rattle.prettyless_table.proofs.Standing.{reverse_push, same_found}
use Rattle.prettyless_table.proofs.table.Table.second_place.Goals as goal
use Rattle.prettyless_table.proofs.table.Table.second_place.Goals.{in-None, in-One+else-not-is_small, in-Two+in-true-true}

pub returns-then-not-is_small : goal.returns-then-not-is_small
returns-then-not-is_small g c = λ ds h.
    let f = g.N.Walk.tree in
    let cells = c.args.self.now.cells.items in
    let places = reverse c.args.waiting.now.items in
    same_found cells 0 ds places places c.in-One.ensures
    (found_large cells (f c.in-One.inner) ds places (sym c.is_small.ensures ∙ c.if-not-is_small.true)) h

pub returns-in-true-false : goal.returns-in-true-false
returns-in-true-false g c = λ ds h.
    let f = g.N.Walk.tree in
    let cells = c.args.self.now.cells.items in
    let places = reverse c.args.waiting.now.items in
    same_found cells c.last.result ds places places c.in-Two.ensures
    (found_second cells (f c.in-Two.first) (f c.in-Two.second) c.last.result ds places
    (sym c.in-true-false.ensures) (sym c.in-true-false.ensures')
    c.last.ensures) h

pub returns-in-false-true : goal.returns-in-false-true
returns-in-false-true g c = λ ds h.
    let f = g.N.Walk.tree in
    let cells = c.args.self.now.cells.items in
    let places = reverse c.args.waiting.now.items in
    same_found cells 0 ds places places c.in-Two.ensures
    (found_first cells (f c.in-Two.first) (f c.in-Two.second) ds places
    (sym c.in-false-true.ensures) (sym c.in-false-true.ensures')) h

pub returns-in-false-false : goal.returns-in-false-false
returns-in-false-false g c = λ ds h.
    let f = g.N.Walk.tree in
    let cells = c.args.self.now.cells.items in
    let places = reverse c.args.waiting.now.items in
    rw (c.take_place.ensures.left, c.take_place.ensures.taken)
    (same_found cells (get_or places 0 0) ds places (drop 1 places) c.in-Two.ensures
    (found_both cells (f c.in-Two.first) (f c.in-Two.second) ds places
    (sym c.in-false-false.ensures) (sym c.in-false-false.ensures')) h)

pub returns : goal.returns
returns g c = λ ds h.
    let f = g.N.Walk.tree in
    let cells = c.args.self.now.cells.items in
    let last = c.last-2.result in
    let places = reverse c.args.waiting.now.items in
    let found : AreFound cells (parts_of (f c.args.node.now)) 0 ds (last ∷ places) = elim c.match-parts_below.branch [
      | in-None w ↦ same_found cells 0 ds places (last ∷ places) w.in-None.ensures (found_nothing cells last ds places c.last-2.ensures) h
      | in-One+else-not-is_small w ↦ same_found cells 0 ds places (last ∷ places) w.in-One.ensures
          (found_one cells (f w.in-One.inner) last ds places (sym w.is_small.ensures ∙ w.if-not-is_small.false) c.last-2.ensures) h
      | in-Two+in-true-true w ↦ same_found cells 0 ds places (last ∷ places) w.in-Two.ensures
          (found_none cells (f w.in-Two.first) (f w.in-Two.second) last ds places (sym w.in-true-true.ensures)
          (sym w.in-true-true.ensures') c.last-2.ensures) h
    ] in
    subst (λ (ps : List ℕ). AreFound cells (parts_of (f c.args.node.now)) 0 ds ps)
    (sym (ap reverse c.in_ok-push.ensures.items ∙ reverse_push c.args.waiting.now.items last)) found
