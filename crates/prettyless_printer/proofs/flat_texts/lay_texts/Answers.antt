use Rattle.std.proofs.Common.{◌≡◌, ◌≤◌, [], rules, List, ◌∷◌, subst, sym, ap, ◌∙◌, refl, arith, vec_capacity}
use Rattle.std.proofs.lemmas.List.Elements.{All-head}
use Rattle.prettyless_probe.specs.Texts.{IsTexts}
use Rattle.prettyless_sink.specs.declared.visits.Visits.{Visits}
use Rattle.prettyless_model.specs.Tree.{Tree}
use Rattle.prettyless_step.specs.declared.printer.Printer.{Printer}
use Rattle.prettyless_printer.specs.Points.{point, seen, standing}
use Rattle.prettyless_printer.specs.Laying.{laid_to}
use Rattle.prettyless_printer.proofs.Laying.{left_trees, trees_waiting}
use Rattle.prettyless_printer.proofs.Laying.{Laid, OneNode, TextFails, left_after, left_at, left_begins, left_done, left_instead}
use Rattle.prettyless_printer.proofs.Laying.{append_gives_way, either_gives_way, empty_gives_way}
use Rattle.prettyless_printer.proofs.Laying.{nil_gives_way, of_kind, one_gives_way, room_one, left_text, left_text_failed, left_trees-push}
use Rattle.prettyless_printer.proofs.Laying.{length-left_trees, no_bytes, room_append, room_to_wait, some_bytes}
use Rattle.prettyless_printer.proofs.flat_texts.lay_texts.Goals as goal
use Rattle.prettyless_printer.proofs.flat_texts.lay_texts.Goals.{in-Text+then-not-is_empty+in_default-write_gap_and_text}
use Rattle.prettyless_printer.proofs.flat_texts.lay_texts.Goals.{in-Text+else-not-is_empty, in-Nil}

pub nodes-init : goal.nodes-init
nodes-init g c =
    let f = g.N.Walk.tree in
    let none = ap (left_trees f) c.requires.empty in
    record {
      left = left_begins none c.gap-gap.ensures c.prospective-position.ensures c.requires.texts;
      printer = refl;
      visits = refl;
      room = omega (arith, c.requires.room, ap (λ (ds : List Tree). trees_waiting (f c.args.first ∷ ds)) none);
    }

pub push_reserved-requires : goal.push_reserved-requires
push_reserved-requires g c =
    let f = g.N.Walk.tree in
    let flat = c.nodes.printer.flat in
    let two = c.in-Two-Append-default-default in
    omega (
      arith,
      room_to_wait (left_trees f flat.items) (f two.l) (f two.r) (of_kind two.field-0-is two.ensures.tree) c.nodes.invariant.room,
      length-left_trees f flat.items,
      flat.ok.0,
    )

pub nodes-preserved-in-Two-Append-default-default : goal.nodes-preserved-in-Two-Append-default-default
nodes-preserved-in-Two-Append-default-default g c =
    let f = g.N.Walk.tree in
    let see = seen g.W.Render.bytes g.W.Render.failures g.W.Render.lender in
    let h = c.nodes.invariant in
    let one : OneNode c.nodes.count c.one_more-count.result =
    record { one = c.one_more-count.ensures.one; rises = c.one_more-count.ensures.rises; at_most = c.one_more-count.ensures.at_most } in
    let two = c.in-Two-Append-default-default in
    let is = of_kind two.field-0-is two.ensures.tree in
    let pushed = ap (left_trees f) c.push_reserved.ensures.items ∙ left_trees-push f c.nodes.printer.flat.items two.r in
    record {
      left = subst (λ (ds : List Tree). Laid (f c.args.first) (point f c.args.printer.now (see c.args.out.now) c.args.visits.now)
          (f two.l ∷ ds) c.nodes.is_written c.nodes.gap c.nodes.position
          (see c.nodes.out) c.one_more-count.result) (sym pushed)
          (left_instead (append_gives_way (f two.l) (f two.r)) is one h.left);
      printer = ap (λ (z : Printer g.row.N.Denot). record z { flat = c.push_reserved.new.self }) h.printer;
      visits = h.visits;
      room = omega (
        arith,
        ap (λ (ds : List Tree). trees_waiting (f two.l ∷ ds)) pushed,
        room_append (left_trees f c.nodes.printer.flat.items) (f two.l) (f two.r) is h.room,
        c.push_reserved.ensures.capacity,
      );
    }

pub nodes-preserved-in-Two-BreakOrFlat-default-default : goal.nodes-preserved-in-Two-BreakOrFlat-default-default
nodes-preserved-in-Two-BreakOrFlat-default-default g c =
    let h = c.nodes.invariant in
    let is = of_kind c.in-Two-BreakOrFlat-default-default.field-0-is c.in-Two-BreakOrFlat-default-default.ensures.tree in
    record {
      left = left_instead (either_gives_way _ _) is
          (record {
            one = c.one_more-count.ensures.one;
            rises = c.one_more-count.ensures.rises;
            at_most =
                c.one_more-count.ensures.at_most;
          }) h.left;
      printer = h.printer;
      visits = h.visits;
      room = subst (λ (z : Tree). trees_waiting (z ∷ left_trees g.N.Walk.tree c.nodes.printer.flat.items)
          ≤ vec_capacity c.nodes.printer.flat) (sym is) h.room;
    }

pub nodes-preserved-in-One : goal.nodes-preserved-in-One
nodes-preserved-in-One g c =
    let f = g.N.Walk.tree in
    let h = c.nodes.invariant in
    let is = c.in-One.ensures.tree in
    let texts = subst IsTexts (sym is) (All-head IsTexts _ (left_trees f c.nodes.printer.flat.items) h.left.texts) in
    record {
      left = left_instead (one_gives_way c.in-One.field-0 (f c.in-One.inner) texts) is
          (record {
            one = c.one_more-count.ensures.one;
            rises = c.one_more-count.ensures.rises;
            at_most =
                c.one_more-count.ensures.at_most;
          }) h.left;
      printer = h.printer;
      visits = h.visits;
      room = room_one (left_trees f c.nodes.printer.flat.items) c.in-One.field-0 (f c.in-One.inner) texts
          (subst (λ (z : Tree). trees_waiting (z ∷ left_trees f c.nodes.printer.flat.items) ≤ vec_capacity c.nodes.printer.flat)
          (sym is) h.room);
    }

pub returns-in-Err-clause-lays : goal.returns-in-Err-clause-lays
returns-in-Err-clause-lays g c = λ a i m.
    let f = g.N.Walk.tree in
    let h = c.nodes.invariant in
    let one : OneNode c.nodes.count c.one_more-count.result =
    record { one = c.one_more-count.ensures.one; rises = c.one_more-count.ensures.rises; at_most = c.one_more-count.ensures.at_most } in
    let same = ap (λ (z : Visits). record z { printer = c.one_more-count.result }) h.visits in
    let fails : TextFails c.in-Text.s.now _ _ _ _ = record {
      some = some_bytes c.is_empty.result c.in-Text.s.now c.is_empty.ensures c.if-not-is_empty.true;
      is = c.in-Text.ensures.tree;
      lender = c.write_gap_and_text.ensures.same_lender;
      refused = c.in-Err.ensures.err;
    } in
    left_text_failed f c.in-Err.e fails one h.left same a i m

pub returns-in_default-pop-clause-lays : goal.returns-in_default-pop-clause-lays
returns-in_default-pop-clause-lays g c = λ a i m.
    let f = g.N.Walk.tree in
    let see = seen g.W.Render.bytes g.W.Render.failures g.W.Render.lender in
    let h = c.nodes.invariant in
    let one : OneNode c.nodes.count c.one_more-count.result =
    record { one = c.one_more-count.ensures.one; rises = c.one_more-count.ensures.rises; at_most = c.one_more-count.ensures.at_most } in
    let b = point f c.args.printer.now (see c.args.out.now) c.args.visits.now in
    let ds : List Tree = left_trees f c.nodes.printer.flat.items in
    let n = c.one_more-count.result in
    let left : Laid (f c.args.first) b ds c.match-view.is_written c.match-view.gap c.match-view.position (see c.match-view.out) n =
    elim c.match-view.branch [
      | in-Text+then-not-is_empty+in_default-write_gap_and_text w ↦
          left_at w.is_written-is w.gap-is (w.position-is ∙ w.saturating_add-position.ensures) (ap see w.out-is)
          (left_text w.in-Text.s.now (see w.write_gap_and_text.new.out)
          (some_bytes w.is_empty.result w.in-Text.s.now w.is_empty.ensures w.if-not-is_empty.true) w.in-Text.ensures.tree one h.left
          w.write_gap_and_text.ensures.same_lender w.in_default-write_gap_and_text.ensures.ok)
      | in-Text+else-not-is_empty w ↦ left_at w.is_written-is w.gap-is w.position-is (ap see w.out-is)
          (left_instead (empty_gives_way w.in-Text.s.now
          (no_bytes w.is_empty.result w.in-Text.s.now w.is_empty.ensures w.if-not-is_empty.false)) w.in-Text.ensures.tree one h.left)
      | in-Nil w ↦ left_at w.is_written-is w.gap-is w.position-is (ap see w.out-is)
          (left_instead nil_gives_way w.in-Nil.ensures.tree one h.left)
    ] in
    let none : c.nodes.printer.flat.items ≡ [] = search rules in
    let stands = c.leave_at.ensures.stands
    ∙ ap (λ (z : Printer g.row.N.Denot). laid_to (standing f z) c.match-view.is_written c.match-view.position) h.printer in
    left_done f _ _ (ap (left_trees f) none) stands (ap (λ (z : Visits). record z { printer = n }) h.visits) left a i m

pub returns-in_default-pop-clause-state : goal.returns-in_default-pop-clause-state
returns-in_default-pop-clause-state g c =
    let f = g.N.Walk.tree in
    let see = seen g.W.Render.bytes g.W.Render.failures g.W.Render.lender in
    let h = c.nodes.invariant in
    let one : OneNode c.nodes.count c.one_more-count.result =
    record { one = c.one_more-count.ensures.one; rises = c.one_more-count.ensures.rises; at_most = c.one_more-count.ensures.at_most } in
    let b = point f c.args.printer.now (see c.args.out.now) c.args.visits.now in
    let ds : List Tree = left_trees f c.nodes.printer.flat.items in
    let n = c.one_more-count.result in
    let left : Laid (f c.args.first) b ds c.match-view.is_written c.match-view.gap c.match-view.position (see c.match-view.out) n =
    elim c.match-view.branch [
      | in-Text+then-not-is_empty+in_default-write_gap_and_text w ↦
          left_at w.is_written-is w.gap-is (w.position-is ∙ w.saturating_add-position.ensures) (ap see w.out-is)
          (left_text w.in-Text.s.now (see w.write_gap_and_text.new.out)
          (some_bytes w.is_empty.result w.in-Text.s.now w.is_empty.ensures w.if-not-is_empty.true) w.in-Text.ensures.tree one h.left
          w.write_gap_and_text.ensures.same_lender w.in_default-write_gap_and_text.ensures.ok)
      | in-Text+else-not-is_empty w ↦ left_at w.is_written-is w.gap-is w.position-is (ap see w.out-is)
          (left_instead (empty_gives_way w.in-Text.s.now
          (no_bytes w.is_empty.result w.in-Text.s.now w.is_empty.ensures w.if-not-is_empty.false)) w.in-Text.ensures.tree one h.left)
      | in-Nil w ↦ left_at w.is_written-is w.gap-is w.position-is (ap see w.out-is)
          (left_instead nil_gives_way w.in-Nil.ensures.tree one h.left)
    ] in
    let none : c.nodes.printer.flat.items ≡ [] = search rules in
    let stands = c.leave_at.ensures.stands
    ∙ ap (λ (z : Printer g.row.N.Denot). laid_to (standing f z) c.match-view.is_written c.match-view.position) h.printer in
    left_after _ (ap (left_trees f) none) stands left

pub nodes-preserved : goal.nodes-preserved
nodes-preserved g c =
    let f = g.N.Walk.tree in
    let see = seen g.W.Render.bytes g.W.Render.failures g.W.Render.lender in
    let h = c.nodes.invariant in
    let one : OneNode c.nodes.count c.one_more-count.result =
    record { one = c.one_more-count.ensures.one; rises = c.one_more-count.ensures.rises; at_most = c.one_more-count.ensures.at_most } in
    let b = point f c.args.printer.now (see c.args.out.now) c.args.visits.now in
    let ds : List Tree = left_trees f c.nodes.printer.flat.items in
    let n = c.one_more-count.result in
    let left : Laid (f c.args.first) b ds c.match-view.is_written c.match-view.gap c.match-view.position (see c.match-view.out) n =
    elim c.match-view.branch [
      | in-Text+then-not-is_empty+in_default-write_gap_and_text w ↦
          left_at w.is_written-is w.gap-is (w.position-is ∙ w.saturating_add-position.ensures) (ap see w.out-is)
          (left_text w.in-Text.s.now (see w.write_gap_and_text.new.out)
          (some_bytes w.is_empty.result w.in-Text.s.now w.is_empty.ensures w.if-not-is_empty.true) w.in-Text.ensures.tree one h.left
          w.write_gap_and_text.ensures.same_lender w.in_default-write_gap_and_text.ensures.ok)
      | in-Text+else-not-is_empty w ↦ left_at w.is_written-is w.gap-is w.position-is (ap see w.out-is)
          (left_instead (empty_gives_way w.in-Text.s.now
          (no_bytes w.is_empty.result w.in-Text.s.now w.is_empty.ensures w.if-not-is_empty.false)) w.in-Text.ensures.tree one h.left)
      | in-Nil w ↦ left_at w.is_written-is w.gap-is w.position-is (ap see w.out-is)
          (left_instead nil_gives_way w.in-Nil.ensures.tree one h.left)
    ] in
    let popped = ap (left_trees f) c.in-Some.ensures.items ∙ left_trees-push f c.pop.new.self.items c.in-Some.next in
    record {
      left = subst (λ (z : List Tree). Laid (f c.args.first) b z c.match-view.is_written c.match-view.gap c.match-view.position
          (see c.match-view.out) n) popped left;
      printer = ap (λ (z : Printer g.row.N.Denot). record z { flat = c.pop.new.self }) h.printer;
      visits = h.visits;
      room = omega (arith, ap trees_waiting popped, h.room, c.pop.ensures.capacity);
    }
