use Rattle.std.proofs.Common.{◌≡◌, ◌+◌, ◌++◌, ◌≤◌, ◌∙◌, ℕ, List, [], ap, arith, length, map, subst, sym}
use Rattle.std.proofs.lemmas.List.{length-map}
use Rattle.prettyless_model.specs.Tree.{Tree}
use Rattle.prettyless_probe.specs.Stack.{trees}
use Rattle.prettyless_table.specs.Owners.{all_owners}
use Rattle.prettyless_shift.specs.Shift.{documents_left}
use Rattle.prettyless_shift.proofs.Rooms.{room_for}
use Rattle.prettyless_shift.proofs.Shifting.{stored_kept}
use Rattle.prettyless_printer.specs.declared.run.Run.{Run}
use Rattle.prettyless_printer.specs.Points.{seen_by, standing}
use Rattle.prettyless_printer.specs.Open.{held, held_of, run_documents, run_nodes, seconds}
use Rattle.prettyless_printer.specs.Runs.{RunReaches}
use Rattle.prettyless_printer.proofs.RunCourses.{goes_over_table}
use Rattle.prettyless_printer.proofs.Shifted.{same_station, shifted_stands, spends_over}
use Rattle.prettyless_printer.proofs.DueRounds.{none_placed, pays_over}
use Rattle.prettyless_printer.proofs.run.Run.shift.Goals as goal

-- what was counted and listed has room in a table: each listed node, and each document
has_room : {N : Type 0} (f : N → Tree) (r : Run N) (none ns : List N) (n most : ℕ) → none ≡ []
    → trees f ns ≡ trees f none ++ all_owners (run_documents f r) → (n ≡ run_nodes f r) × (n ≤ most)
    → length ns + length (documents_left f r.printer) + length (seconds (held_of f r)) ≤ most
has_room f r none ns n most empty list counted =
    let listed : map f ns ≡ all_owners (run_documents f r) =
    list ∙ ap (λ ms. trees f ms ++ all_owners (run_documents f r)) empty in
    omega (arith, room_for f r.printer (seconds (held_of f r)) ns listed, counted.0, counted.1)

pub fill-requires-clause-room : goal.fill-requires-clause-room
fill-requires-clause-room g c =
    let room = has_room g.N.Walk.tree c.args.self.now c.new-owners.result.items c.count_all.new.owners.items c.in-Some.nodes
    c.min-most.result c.new-owners.ensures.items (rw c.in-Some.is at c.in_ok-nodes.ensures.listed)
    (rw c.in-Some.is at c.in_ok-nodes.ensures.counted) in
    omega (arith, room, c.min-most.ensures, ap length c.in_ok-table.ensures.empty)

pub store_all-requires-clause-room : goal.store_all-requires-clause-room
store_all-requires-clause-room g c =
    let room = has_room g.N.Walk.tree c.args.self.now c.new-owners.result.items c.count_all.new.owners.items c.in-Some.nodes
    c.min-most.result c.new-owners.ensures.items (rw c.in-Some.is at c.in_ok-nodes.ensures.listed)
    (rw c.in-Some.is at c.in_ok-nodes.ensures.counted) in
    omega (arith, room, c.min-most.ensures, ap length c.in_ok-table.ensures.empty, c.in_ok-waiting.ensures.count)

pub store_seconds-requires-clause-room : goal.store_seconds-requires-clause-room
store_seconds-requires-clause-room g c =
    let f = g.N.Walk.tree in
    let trials = c.args.self.now.trials.open.items in
    let room = has_room f c.args.self.now c.new-owners.result.items c.count_all.new.owners.items c.in-Some.nodes
    c.min-most.result c.new-owners.ensures.items (rw c.in-Some.is at c.in_ok-nodes.ensures.listed)
    (rw c.in-Some.is at c.in_ok-nodes.ensures.counted) in
    omega (
      arith,
      room,
      c.min-most.ensures,
      ap length c.in_ok-table.ensures.empty,
      c.in_ok-waiting.ensures.count,
      c.in_ok-places.ensures.count,
      length-map (held_of f c.args.self.now) (λ u. u.second),
      length-map trials (held f),
    )

-- what is left stands where it was stored, after the table has grown
pub placed_printer-requires-clause-stored : goal.placed_printer-requires-clause-stored
placed_printer-requires-clause-stored g c =
    stored_kept g.N.Walk.tree c.store_all.new.table.cells.items c.store_seconds.new.table.cells.items c.args.self.now.printer
    c.in_ok-places.places c.store_seconds.ensures.grows c.in_ok-places.ensures.stored

-- the run goes on where it stands
pub finish-ended-requires-clause-comes : goal.finish-ended-requires-clause-comes
finish-ended-requires-clause-comes g c =
    let f = g.N.Walk.tree in
    let same = same_station f c.args.self.now (seen_by g.W.Render c.args.out.now)
    c.in_ok-trials.ensures (shifted_stands f _ c.args.self.now.printer c.in_ok-printer.printer c.in_ok-printer.ensures.shifted)
    c.replace-buffer.ensures.value in
    (c.requires.comes.0, subst (RunReaches c.requires.comes.0) (sym same) c.requires.comes.1)

-- what it leaves visits two nodes for each that needs a probe
pub returns-clause-ended : goal.returns-clause-ended
returns-clause-ended g c = λ a comes.
    let f = g.N.Walk.tree in
    let same = same_station f c.args.self.now (seen_by g.W.Render c.args.out.now)
    c.in_ok-trials.ensures (shifted_stands f _ c.args.self.now.printer c.in_ok-printer.printer c.in_ok-printer.ensures.shifted)
    c.replace-buffer.ensures.value in
    let there = subst (RunReaches a) (sym same) comes in
    record {
      ends = (standing _ c.finish-ended.new.self.printer, c.finish-ended.ensures.ends a there);
      spends = λ plain. spends_over same (c.finish-ended.ensures.spends a there plain);
    }

-- it goes on in its course
pub returns-clause-course : goal.returns-clause-course
returns-clause-course g c =
    let f = g.N.Walk.tree in
    let same = same_station f c.args.self.now (seen_by g.W.Render c.args.out.now)
    c.in_ok-trials.ensures (shifted_stands f _ c.args.self.now.printer c.in_ok-printer.printer c.in_ok-printer.ensures.shifted)
    c.replace-buffer.ensures.value in
    goes_over_table g.N.Walk.HAS_SUMMARIES c.finish-ended.new.self.visits.probes c.finish-ended.result same c.finish-ended.ensures.course

-- what is due there is what was due
pub returns-clause-pays : goal.returns-clause-pays
returns-clause-pays g c = λ none free.
    let f = g.N.Walk.tree in
    let old = c.args.self.now in
    pays_over old.visits (shifted_stands f _ old.printer c.in_ok-printer.printer c.in_ok-printer.ensures.shifted) free
    (c.finish-ended.ensures.pays
    (none_placed f _ old.trials.open.items c.in_ok-trials.trials.open.items c.in_ok-trials.ensures none))
