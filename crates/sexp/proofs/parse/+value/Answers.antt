use Rattle.std.proofs.Common.{arith, ◌-◌, ◌∷◌}
use Rattle.std.proofs.lemmas.Grind.{common_steps}
use Rattle.std.proofs.lemmas.List.{map_push}
use Rattle.std.proofs.lemmas.Result.{err_from_is_err_and}
use Rattle.sexp.specs.Value.{values_of}
use Rattle.sexp.specs.Grammar.{opening}
use Rattle.sexp.specs.View.{value_of, values_in}
use Rattle.sexp.specs.Fronts.{HasNoFront, HasNoListFront}
use Rattle.sexp.proofs.Fronts.{list_is_empty, list_goes_on, list_closes, no_value, no_next}
use Rattle.sexp.proofs.Levels.{list_front, no_list_front, no_level_left, atom_front, no_atom_front, refuses_more}
use Rattle.sexp.proofs.Views.{value_of-Atom, value_of-List}
use Rattle.sexp.proofs.parse.+value.Goals as goal

-- ---- list

pub list-returns-in-Some-clause-ok : goal.list-returns-in-Some-clause-ok
list-returns-in-Some-clause-ok t c = rw (c.new-items.ensures.items, c.in-Some.ensures.some) (list_is_empty c.args.levels c.in-Some.rest.now)

pub list-returns-in_err-item-clause-err : goal.list-returns-in_err-item-clause-err
list-returns-in_err-item-clause-err t c =
    let p = err_from_is_err_and c.from_residual.result c.from_residual.ensures.1 in
    let l = c.loop-items in
    rw (p.1, p.2) (refuses_more c.in_err-item.field-0.0 (HasNoFront c.args.levels l.rest.now)
    (HasNoListFront c.args.levels c.args.bytes.now)
    (no_value c.args.levels c.args.bytes.now (values_in l.items.items) l.rest.now l.invariant) c.in_err-item.ensures.err)

pub list-returns-in-Some-after-clause-ok : goal.list-returns-in-Some-after-clause-ok
list-returns-in-Some-after-clause-ok t c =
    let l = c.loop-items in
    let front = rw c.in-Some-after.ensures.some at c.in_ok-item.ensures.ok in
    rw (c.in_ok-push.ensures.items, map_push value_of l.items.items c.in_ok-item.item)
    (list_closes c.args.levels c.args.bytes.now (values_in l.items.items) l.rest.now (value_of c.in_ok-item.item) c.in-Some-after.end.now
    l.invariant front)

pub list-loop-items-preserved : goal.list-loop-items-preserved
list-loop-items-preserved t c =
    let l = c.loop-items in
    let front = rw c.in-Some-after-2.ensures.some at c.in_ok-item.ensures.ok in
    rw (c.in_ok-push.ensures.items, map_push value_of l.items.items c.in_ok-item.item)
    (list_goes_on c.args.levels c.args.bytes.now (values_in l.items.items) l.rest.now (value_of c.in_ok-item.item)
    c.in-Some-after-2.more.now l.invariant front)

pub list-returns-in-None-clause-err : goal.list-returns-in-None-clause-err
list-returns-in-None-clause-err t c =
    let l = c.loop-items in
    no_next c.args.levels c.args.bytes.now (values_in l.items.items) l.rest.now (value_of c.in_ok-item.item) c.in_ok-item.next.now
    l.invariant c.in_ok-item.ensures.ok c.in_default-after.ensures.none c.in-None.ensures.none

-- ---- value

pub value-returns-then-levels-eq0-clause-err : goal.value-returns-then-levels-eq0-clause-err
value-returns-then-levels-eq0-clause-err t c =
    rw c.in-Some.ensures.some (no_level_left c.args.levels c.in-Some.inner.now c.if-levels-eq0.true)

pub value-returns-in_err-items-clause-err : goal.value-returns-in_err-items-clause-err
value-returns-in_err-items-clause-err t c =
    let p = err_from_is_err_and c.from_residual.result c.from_residual.ensures.1 in
    let inner = c.in-Some.inner.now in
    rw (p.1, p.2, c.in-Some.ensures.some)
    (refuses_more c.in_err-items.field-0.0 (HasNoListFront (c.args.levels - 1) inner) (HasNoFront c.args.levels (opening ∷ inner))
    (no_list_front c.args.levels inner (omega arith)) c.in_err-items.ensures.err)

pub value-returns-in-Some-clause-ok : goal.value-returns-in-Some-clause-ok
value-returns-in-Some-clause-ok t c =
    rw (c.in-Some.ensures.some, value_of-List c.in_ok-items.items)
    (list_front c.args.levels c.in-Some.inner.now (values_of (values_in c.in_ok-items.items.items)) c.in_ok-items.rest.now (omega arith)
    c.in_ok-items.ensures.ok)

pub value-returns-in-Some-atom-clause-ok : goal.value-returns-in-Some-atom-clause-ok
value-returns-in-Some-atom-clause-ok t c =
    rw (value_of-Atom c.in-Some-atom.number) (atom_front c.args.levels c.args.bytes.now c.in_default.ensures.none c.in-Some-atom.number
    c.in-Some-atom.rest.now c.in-Some-atom.ensures.some)

pub value-returns-in-None-clause-err : goal.value-returns-in-None-clause-err
value-returns-in-None-clause-err t c = no_atom_front c.args.levels c.args.bytes.now c.in_default.ensures.none c.in-None.ensures.none

pub list-loop-items-smaller : goal.list-loop-items-smaller
list-loop-items-smaller t c = grind (arith, common_steps)
