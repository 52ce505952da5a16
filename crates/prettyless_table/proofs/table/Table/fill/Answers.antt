use Rattle.std.proofs.Common.{◌≡◌, ◌-◌, ◌∷◌, ◌++◌, ◌∙◌, ℕ, List, [], ap, arith, drop, length, length-append, map, reverse, subst, sym}
use Rattle.prettyless_model.specs.Tree.{Tree}
use Rattle.prettyless_table.specs.Owners.{StandAt, WaitsInTable, keepers, large}
use Rattle.prettyless_table.specs.Parts.{parts_of}
use Rattle.prettyless_table.proofs.Owners.{waiting}
use Rattle.prettyless_table.proofs.Trees.{grows, grows_then}
use Rattle.prettyless_table.proofs.Standing.{goes_on, is_next, keeps_placed, list_fits, read_back, reverse_push, stand_large, waits_next}
use Rattle.prettyless_table.proofs.table.Table.fill.Goals as goal

pub node_sums-sums-requires-clause-first : goal.node_sums-sums-requires-clause-first
node_sums-sums-requires-clause-first g c =
    let f = g.N.Walk.tree in
    let ns = c.args.owners.items in
    let n = c.index.result.now in
    let k = c.owners.k in
    let read = read_back ns k n (omega (arith, c.owners-test.true)) c.owners.invariant.within c.index.ensures in
    let next = is_next f c.owners.self.cells.items ns k n (reverse c.owners.waiting.items) c.requires.listed.0 c.requires.listed.1 read
    c.owners.invariant.waits in
    (c.in_ok-second.ensures (drop (length (keepers (parts_of (f n)))) (waiting (map f (drop k ns)))) next.waits).first

pub node_sums-sums-requires-clause-second : goal.node_sums-sums-requires-clause-second
node_sums-sums-requires-clause-second g c =
    let f = g.N.Walk.tree in
    let ns = c.args.owners.items in
    let n = c.index.result.now in
    let k = c.owners.k in
    let read = read_back ns k n (omega (arith, c.owners-test.true)) c.owners.invariant.within c.index.ensures in
    let next = is_next f c.owners.self.cells.items ns k n (reverse c.owners.waiting.items) c.requires.listed.0 c.requires.listed.1 read
    c.owners.invariant.waits in
    (c.in_ok-second.ensures (drop (length (keepers (parts_of (f n)))) (waiting (map f (drop k ns)))) next.waits).second

pub owners-preserved : goal.owners-preserved
owners-preserved g c =
    let f = g.N.Walk.tree in
    let cells = c.owners.self.cells.items in
    let cell = c.in_ok-cell.cell in
    let ns = c.args.owners.items in
    let n = c.index.result.now in
    let k = c.owners.k in
    let places = reverse c.second_place.new.waiting.items in
    let rest = drop (length (keepers (parts_of (f n)))) (waiting (map f (drop k ns))) in
    let read = read_back ns k n (omega (arith, c.owners-test.true)) c.owners.invariant.within c.index.ensures in
    let next = is_next f cells ns k n (reverse c.owners.waiting.items) c.requires.listed.0 c.requires.listed.1 read
    c.owners.invariant.waits in
    let found = c.in_ok-second.ensures rest next.waits in
    let keeps = c.in_ok-cell.ensures.keeps (f n) c.node_sums-sums.ensures in
    let more : WaitsInTable (cells ++ cell ∷ []) (f n ∷ rest) places =
    waits_next cells cell (f n) c.in_ok-second.second rest places next.takes found keeps
    c.in_ok-cell.ensures.second in
    let waits : WaitsInTable (cells ++ cell ∷ []) (waiting (map f (drop (k - 1) ns))) places =
    subst (λ (ms : List _). WaitsInTable (cells ++ cell ∷ []) (waiting (map f ms)) places) (sym read) more in
    record {
      within = omega (arith, c.owners.invariant.within);
      count = omega (
        arith,
        c.owners.invariant.count,
        c.owners-test.true,
        ap length {y = cells ++ cell ∷ []} c.in_ok-push.ensures.items,
        length-append cells (cell ∷ []),
      );
      grows = rw c.in_ok-push.ensures.items
          (grows_then f c.args.self.now.cells.items cells (cells ++ cell ∷ []) c.owners.invariant.grows
          (grows f cells cell (keeps_placed f cells cell (f n) keeps)));
      waits = rw c.in_ok-push.ensures.items waits;
    }

pub returns-clause-stand : goal.returns-clause-stand
returns-clause-stand g c = λ ds list.
    let f = g.N.Walk.tree in
    let cells = c.owners.self.cells.items in
    let ns = c.args.owners.items in
    let places = reverse c.owners.waiting.items in
    let none : c.owners.k ≡ 0 = omega (arith, c.owners-test.false) in
    let all : WaitsInTable cells (waiting (map f ns)) places =
    subst (λ (i : ℕ). WaitsInTable cells (waiting (map f (drop i ns))) places) none c.owners.invariant.waits in
    let waits : WaitsInTable cells (keepers ds) places =
    subst (λ (es : List Tree). WaitsInTable cells es places) (list_fits ds (map f ns) list).1 all in
    let stand = stand_large cells ds (c.last.result ∷ places) (goes_on cells (keepers ds) c.last.result places c.last.ensures waits) in
    subst (λ (ps : List ℕ). StandAt cells (large ds) ps)
    (sym (ap reverse c.in_ok-push-2.ensures.items ∙ reverse_push c.owners.waiting.items c.last.result)) stand
