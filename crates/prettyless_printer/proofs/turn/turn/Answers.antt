use Rattle.std.proofs.Common.{[], ◌∷◌, ◌∙◌, Result, length, drop, ap, append-nil, arith, refl, subst, sym}
use Rattle.prettyless_sink.specs.Sink.{known}
use Rattle.prettyless_model.specs.declared.mode.Mode.TheVariants.{Flat}
use Rattle.prettyless_model.specs.declared.options.RenderOptions.{RenderOptions}
use Rattle.prettyless_probe.specs.Stack.{make_task, task, trees}
use Rattle.prettyless_probe.specs.Sums.{IsSummed}
use Rattle.prettyless_probe.specs.declared.stack.Stack.{Stack}
use Rattle.prettyless_step.specs.declared.printer.Printer.{Printer}
use Rattle.prettyless_step.specs.declared.queue.Queue.{Queue}
use Rattle.prettyless_step.specs.Piece.{piece_bytes}
use Rattle.prettyless_printer.specs.Turns.{Advances}
use Rattle.prettyless_printer.specs.Laying.{Laying, ends_turn}
use Rattle.prettyless_printer.specs.Points.{Standing, point, point_at, seen, standing, state_at}
use Rattle.prettyless_printer.specs.Visits.{visited_more}
use Rattle.prettyless_printer.specs.CourseOf.{after_texts}
use Rattle.prettyless_printer.proofs.Trying.{grows_same}
use Rattle.prettyless_printer.proofs.TurnSteps.{keeps_rest, took_step}
use Rattle.prettyless_printer.proofs.Courses.{asks_in_part, course_begins, course_choice, course_down, course_failed, course_laid}
use Rattle.prettyless_printer.proofs.Courses.{course_refused, course_wrote, refused_here, stops_at, stops_here}
use Rattle.prettyless_printer.proofs.Descends.{goes_down, in_hand, visit}
use Rattle.prettyless_printer.proofs.Standings.{choice_there, descended, pending_stands, step_from, stuck_there, wrote}
use Rattle.prettyless_printer.proofs.Visits.{visited_more-zero}
use Rattle.prettyless_printer.proofs.Spending.{spends_all, spends_begun, spends_choice, spends_down, spends_error, spends_failed}
use Rattle.prettyless_printer.proofs.Spending.{spends_moved, takes}
use Rattle.prettyless_printer.proofs.DueQueues.{start_down}
use Rattle.prettyless_printer.proofs.Paying.{pays_all, pays_begun, pays_choice, pays_down, pays_error, pays_failed, pays_laid, pays_moved}
use Rattle.prettyless_printer.proofs.Laying.{laying_begins, spends_laid}
use Rattle.prettyless_printer.proofs.Advancing.{advances_choice, advances_failed, advances_moved, advances_refused, advances_sink_failed}
use Rattle.prettyless_printer.proofs.turn.turn.Goals as goal

pub unreachable-requires : goal.unreachable-requires
unreachable-requires g c =
    omega (arith, ap length c.in_default.ensures.popped.0)

pub down-init : goal.down-init
down-init g c =
    let f = g.N.Walk.tree in
    let p = c.args.printer.now in
    let v = c.args.visits.now in
    let none = visited_more-zero v (omega arith) in
    record {
      hand = rw none
          (in_hand (point f p (seen g.W.Render.bytes g.W.Render.failures g.W.Render.lender c.args.out.now) v)
          (standing f (record p { commands = c.pop.new.self })) (task f c.in-Some.command) c.in-Some.ensures.popped refl refl
          (grows_same (standing f p)));
      summed = c.pop.ensures.summed c.requires.summed;
      spends = λ plain. rw none
          (spends_begun _ (standing f p) (standing f (record p { commands = c.pop.new.self })) (task f c.in-Some.command) v
          c.in-Some.ensures.popped refl);
      course = λ u has on. course_begins (standing f p) (standing f (record p { commands = c.pop.new.self })) c.in-Some.ensures.popped refl
          on;
      pays = λ free. rw none
          (pays_begun _ (standing f p) (standing f (record p { commands = c.pop.new.self })) (task f c.in-Some.command) v
          c.in-Some.ensures.popped refl free);
      start = refl;
    }

-- ---- On to the next node

pub down-preserved-in-Ok-Descend : goal.down-preserved-in-Ok-Descend
down-preserved-in-Ok-Descend g c =
    let f = g.N.Walk.tree in
    let p = c.down.printer in
    let q = c.step.new.printer in
    let at = c.in-Ok-Descend in
    let h = took_step f c.down.count c.down.visits p q c.down.invariant.hand c.one_more-count.ensures.one at.ensures.visits
    at.field-0-is tt at.ensures.step c.down.invariant.spends in
    let i = at.next_indent in
    let n = at.next in
    record {
      hand = goes_down f p q _ i c.down.mode n h.took.hand h.took.one h.asked h.shows;
      summed = at.ensures.summed;
      course = λ u has on. course_down (c.down.invariant.course u has on) has h.asks (descended f i c.down.mode n _ p q h.shows);
      spends = λ plain. spends_down f p q i c.down.mode n h.took plain c.step.ensures.queue h.shows;
      pays = λ free. pays_down f p h.took _ (c.down.invariant.pays free) q i c.down.mode n h.shows;
      start = start_down f p q i c.down.mode n _ at.ensures.start h.shows ∙ c.down.invariant.start;
    }

pub down-preserved : goal.down-preserved
down-preserved g c =
    let f = g.N.Walk.tree in
    let p = c.down.printer in
    let q = c.step.new.printer in
    let at = c.in-Ok-DescendFlat in
    let h = took_step f c.down.count c.down.visits p q c.down.invariant.hand c.one_more-count-in-Ok-DescendFlat.ensures.one
    at.ensures.visits at.field-0-is tt at.ensures.step c.down.invariant.spends in
    let i = at.next_indent in
    let n = at.next in
    record {
      hand = goes_down f p q _ i Flat n h.took.hand h.took.one h.asked h.shows;
      summed = at.ensures.summed;
      course = λ u has on. course_down (c.down.invariant.course u has on) has h.asks (descended f i Flat n _ p q h.shows);
      spends = λ plain. spends_down f p q i Flat n h.took plain c.step.ensures.queue h.shows;
      pays = λ free. pays_down f p h.took _ (c.down.invariant.pays free) q i Flat n h.shows;
      start = start_down f p q i Flat n _ at.ensures.start h.shows ∙ c.down.invariant.start;
    }

-- ---- Nothing to write

pub returns-in-Ok-Silent : goal.returns-in-Ok-Silent
returns-in-Ok-Silent g c =
    let f = g.N.Walk.tree in
    let p = c.down.printer in
    let q = c.step.new.printer in
    let at = c.in-Ok-Silent in
    let more = c.count_more-in-Ok-Silent.ensures.more in
    let h = took_step f c.down.count c.down.visits p q c.down.invariant.hand c.one_more-in-Ok-Silent.ensures.one at.ensures.visits
    at.field-0-is tt at.ensures.step c.down.invariant.spends in
    let done = wrote f _ [] p q h.shows in
    record {
      advances = rw more
          (advances_moved h.took.hand h.took.one h.asked done refl
          (λ is_known. (is_known, (sym (append-nil (known (g.W.Render.bytes c.down.out))), refl))));
      past = tt;
      spends = rw more (λ plain. spends_moved f p q [] h.took plain c.step.ensures.queue done);
      course = rw more (λ u has on. course_wrote (c.down.invariant.course u has on) has h.asks done);
      pays = rw more (λ free. pays_moved f p h.took _ (c.down.invariant.pays free) q [] done);
      start = λ some. at.ensures.start.1 (pending_stands f q ∙ some) ∙ c.down.invariant.start;
      summed = at.ensures.summed;
    }

-- ---- A node that fails

pub returns-in-Ok-Failed : goal.returns-in-Ok-Failed
returns-in-Ok-Failed g c =
    let f = g.N.Walk.tree in
    let p = c.down.printer in
    let q = c.step.new.printer in
    let at = c.in-Ok-Failed in
    let more = c.count_more-in-Ok-Failed.ensures.more in
    let h = took_step f c.down.count c.down.visits p q c.down.invariant.hand c.one_more-in-Ok-Failed.ensures.one at.ensures.visits
    at.field-0-is tt at.ensures.step c.down.invariant.spends in
    let t = make_task c.down.indent c.down.mode (f c.down.node) in
    record {
      advances = rw more (advances_failed f p q h.took.hand h.took.one h.shows);
      past = tt;
      spends = rw more (λ plain. spends_failed f p q h.took plain h.shows);
      course = rw more
          (λ u has on. course_failed (c.down.invariant.course u has on) h.asks
          (stuck_there f t.mode (step_from c.args.printer.now.options t (standing f p)) p q h.shows).0);
      pays = rw more (λ free. pays_failed f p h.took _ (c.down.invariant.pays free) q h.shows);
      start = tt;
      summed = at.ensures.summed;
    }

-- ---- A choice

pub returns-in-Ok-Choice : goal.returns-in-Ok-Choice
returns-in-Ok-Choice g c =
    let f = g.N.Walk.tree in
    let p = c.down.printer in
    let q = c.step.new.printer in
    let at = c.in-Ok-Choice in
    let more = c.count_more-in-Ok-Choice.ensures.more in
    let h = took_step f c.down.count c.down.visits p q c.down.invariant.hand c.one_more-in-Ok-Choice.ensures.one at.ensures.visits
    at.field-0-is tt at.ensures.step c.down.invariant.spends in
    let t = make_task c.down.indent c.down.mode (f c.down.node) in
    let there = choice_there f t.mode at.indent at.first at.second (step_from c.args.printer.now.options t (standing f p)) p q h.shows in
    record {
      advances = rw more
          (advances_choice f (record { indent = at.indent; first = at.first; second = at.second }) p q h.took.hand h.took.one h.asked
          h.shows);
      past = tt;
      spends = rw more (λ plain. spends_choice f p q at.indent at.first at.second h.took plain h.shows);
      course = rw more
          (λ u has on. course_choice at.indent (f at.first) (f at.second) (c.down.invariant.course u has on) h.asks there.0 there.1);
      pays = λ free. pays_choice f p h.took _ (c.down.invariant.pays free) q at.indent at.first at.second h.shows;
      start = tt;
      summed = at.ensures.summed;
    }

-- ---- A piece, which was written or not

pub returns-in-Ok-write_piece : goal.returns-in-Ok-write_piece
returns-in-Ok-write_piece g c =
    let f = g.N.Walk.tree in
    let p = c.down.printer in
    let q = c.step.new.printer in
    let at = c.in-Ok-Emit in
    let more = c.count_more-in-Ok-Emit.ensures.more in
    let h = took_step f c.down.count c.down.visits p q c.down.invariant.hand c.one_more-in-Ok-Emit.ensures.one at.ensures.visits
    at.field-0-is tt at.ensures.step c.down.invariant.spends in
    let done = wrote f _ (piece_bytes at.piece) p q h.shows in
    record {
      advances = rw more
          (advances_moved h.took.hand h.took.one h.asked done c.write_piece.ensures.same_lender c.in-Ok-write_piece.ensures.ok);
      past = tt;
      spends = rw more (λ plain. spends_moved f p q (piece_bytes at.piece) h.took plain c.step.ensures.queue done);
      course = rw more (λ u has on. course_wrote (c.down.invariant.course u has on) has h.asks done);
      pays = rw more (λ free. pays_moved f p h.took _ (c.down.invariant.pays free) q (piece_bytes at.piece) done);
      start = λ some. at.ensures.start.1 (pending_stands f q ∙ some) ∙ c.down.invariant.start;
      summed = at.ensures.summed;
    }

pub returns-in-Err-write_piece : goal.returns-in-Err-write_piece
returns-in-Err-write_piece g c =
    let f = g.N.Walk.tree in
    let p = c.down.printer in
    let q = c.step.new.printer in
    let at = c.in-Ok-Emit in
    let more = c.count_more-in-Ok-Emit.ensures.more in
    let h = took_step f c.down.count c.down.visits p q c.down.invariant.hand c.one_more-in-Ok-Emit.ensures.one at.ensures.visits
    at.field-0-is tt at.ensures.step c.down.invariant.spends in
    let done = wrote f _ (piece_bytes at.piece) p q h.shows in
    record {
      advances = rw more
          (advances_sink_failed h.took.hand h.took.one done c.write_piece.ensures.same_lender c.in-Err-write_piece.ensures.err);
      past = tt;
      spends = rw more (λ plain. spends_error f p h.took plain);
      course = rw more (λ u has on. stops_here (course_wrote (c.down.invariant.course u has on) has h.asks done));
      pays = rw more (λ free. pays_error f p h.took _ (c.down.invariant.pays free));
      start = tt;
      summed = tt;
    }

-- ---- Texts, which were laid or not

pub returns-in-Ok-lay_texts : goal.returns-in-Ok-lay_texts
returns-in-Ok-lay_texts g c =
    let f = g.N.Walk.tree in
    let p = c.down.printer in
    let q = c.step.new.printer in
    let at = c.in-Ok-DescendTexts in
    let more = c.count_more-in-Ok-DescendTexts.ensures.more in
    let h = took_step f c.down.count c.down.visits p q c.down.invariant.hand c.one_more-in-Ok-DescendTexts.ensures.one at.ensures.visits
    at.field-0-is tt at.ensures.step c.down.invariant.spends in
    let i = at.field-0-0 in
    let n = at.next in
    let r = c.lay_texts.new.printer in
    let see = seen g.W.Render.bytes g.W.Render.failures g.W.Render.lender in
    let a = point f c.args.printer.now (see c.args.out.now) c.args.visits.now in
    let b = point f r (see c.lay_texts.new.out) c.lay_texts.new.visits in
    let laying = subst (λ (z : Standing). Laying a (make_task i Flat (f n) ∷ [])
    (point_at z (see c.down.out) (visited_more c.one_more-in-Ok-DescendTexts.result c.step.new.visits)))
    (sym (ap (standing f) c.make_room.ensures.others)) (laying_begins f p q _ i n h.took.hand h.took.one h.asked h.shows.0) in
    let lays = rw more at c.lay_texts.ensures.lays in
    let kept = keeps_rest f q c.make_room.new.printer r c.make_room.ensures.others c.lay_texts.ensures.commands
    c.lay_texts.ensures.queue in
    let probes = rw more at c.lay_texts.ensures.probes in
    let rises = rw more at c.lay_texts.ensures.rises in
    let counted = rw more at c.lay_texts.ensures.counted in
    let down = descended f i Flat n
    (step_from c.args.printer.now.options (make_task c.down.indent c.down.mode (f c.down.node)) (standing f p)) p q h.shows.0 in
    record {
      advances = subst (λ (z : Result (Unit {0}) g.row.W-Error.Denot). Advances f a b (ends_turn z)) c.in-Ok-lay_texts.is (lays a i laying);
      past = tt;
      spends = λ plain.
          spends_laid (standing f q) (standing f r) c.lay_texts.new.visits kept.tasks
          (ap (λ (z : Queue g.row.N.Denot). trees f z.nodes.items) kept.queue) probes rises counted
          (spends_down f p q i Flat n h.took plain c.step.ensures.queue h.shows.0);
      course = λ u has on.
          course_laid (standing f r) h.shows.1.0 (course_down (c.down.invariant.course u has on) has h.asks down) kept.tasks
          (c.in-Ok-lay_texts.ensures.state
          ∙ ap (λ (z : Printer g.row.N.Denot). after_texts z.options (f n) (state_at (standing f z))) c.make_room.ensures.others
          ∙ ap (λ (o : RenderOptions). after_texts o (f n) (state_at (standing f q))) (down.options ∙ h.took.hand.options)) probes;
      pays = λ free.
          pays_laid (standing f q) (standing f r) c.lay_texts.new.visits kept.tasks
          (ap (λ (z : Queue g.row.N.Denot). drop z.start (trees f z.nodes.items)) kept.queue) probes rises counted
          (pays_down f p h.took _ (c.down.invariant.pays free) q i Flat n h.shows.0);
      start = λ some. ap (λ (z : Queue g.row.N.Denot). z.start) kept.queue ∙ start_down f p q i Flat n _ at.ensures.start h.shows.0
          ∙ c.down.invariant.start;
      summed = subst (λ (z : Stack g.row.N.Denot). IsSummed g.N.Walk.HAS_SUMMARIES f z) (sym kept.commands) at.ensures.summed;
    }

pub returns-in-Err-lay_texts : goal.returns-in-Err-lay_texts
returns-in-Err-lay_texts g c =
    let f = g.N.Walk.tree in
    let p = c.down.printer in
    let q = c.step.new.printer in
    let at = c.in-Ok-DescendTexts in
    let more = c.count_more-in-Ok-DescendTexts.ensures.more in
    let h = took_step f c.down.count c.down.visits p q c.down.invariant.hand c.one_more-in-Ok-DescendTexts.ensures.one at.ensures.visits
    at.field-0-is tt at.ensures.step c.down.invariant.spends in
    let i = at.field-0-0 in
    let n = at.next in
    let r = c.lay_texts.new.printer in
    let see = seen g.W.Render.bytes g.W.Render.failures g.W.Render.lender in
    let a = point f c.args.printer.now (see c.args.out.now) c.args.visits.now in
    let b = point f r (see c.lay_texts.new.out) c.lay_texts.new.visits in
    let laying = subst (λ (z : Standing). Laying a (make_task i Flat (f n) ∷ [])
    (point_at z (see c.down.out) (visited_more c.one_more-in-Ok-DescendTexts.result c.step.new.visits)))
    (sym (ap (standing f) c.make_room.ensures.others)) (laying_begins f p q _ i n h.took.hand h.took.one h.asked h.shows.0) in
    let lays = rw more at c.lay_texts.ensures.lays in
    let kept = keeps_rest f q c.make_room.new.printer r c.make_room.ensures.others c.lay_texts.ensures.commands
    c.lay_texts.ensures.queue in
    let probes = rw more at c.lay_texts.ensures.probes in
    let rises = rw more at c.lay_texts.ensures.rises in
    let counted = rw more at c.lay_texts.ensures.counted in
    let down = descended f i Flat n
    (step_from c.args.printer.now.options (make_task c.down.indent c.down.mode (f c.down.node)) (standing f p)) p q h.shows.0 in
    record {
      advances = subst (λ (z : Result (Unit {0}) g.row.W-Error.Denot). Advances f a b (ends_turn z)) c.in-Err-lay_texts.is
          (lays a i laying);
      past = tt;
      spends = λ plain.
          spends_all (spends_laid (standing f q) (standing f r) c.lay_texts.new.visits kept.tasks
          (ap (λ (z : Queue g.row.N.Denot). trees f z.nodes.items) kept.queue) probes rises counted
          (spends_down f p q i Flat n h.took plain c.step.ensures.queue h.shows.0));
      course = λ u has on. stops_at (course_down (c.down.invariant.course u has on) has h.asks down).comes (sym probes);
      pays = λ free.
          pays_all (pays_laid (standing f q) (standing f r) c.lay_texts.new.visits kept.tasks
          (ap (λ (z : Queue g.row.N.Denot). drop z.start (trees f z.nodes.items)) kept.queue) probes rises counted
          (pays_down f p h.took _ (c.down.invariant.pays free) q i Flat n h.shows.0));
      start = tt;
      summed = tt;
    }

-- ---- No room for the texts that wait

pub returns-in-Err-make_room : goal.returns-in-Err-make_room
returns-in-Err-make_room g c =
    let f = g.N.Walk.tree in
    let p = c.down.printer in
    let q = c.step.new.printer in
    let at = c.in-Ok-DescendTexts in
    let more = c.count_more-in-Ok-DescendTexts.ensures.more in
    let h = took_step f c.down.count c.down.visits p q c.down.invariant.hand c.one_more-in-Ok-DescendTexts.ensures.one at.ensures.visits
    at.field-0-is tt at.ensures.step c.down.invariant.spends in
    let down = descended f at.field-0-0 Flat at.next
    (step_from c.args.printer.now.options (make_task c.down.indent c.down.mode (f c.down.node)) (standing f p)) p q h.shows.0 in
    record {
      advances = rw more (advances_refused h.took.hand h.took.one);
      past = tt;
      spends = rw more (λ plain. spends_error f p h.took plain);
      course = rw more (λ u has on. refused_here (course_down (c.down.invariant.course u has on) has h.asks down).comes);
      pays = rw more (λ free. pays_error f p h.took _ (c.down.invariant.pays free));
      start = tt;
      summed = tt;
    }

-- ---- The step was refused memory

pub returns-in-Err : goal.returns-in-Err
returns-in-Err g c =
    let f = g.N.Walk.tree in
    let p = c.down.printer in
    let costs = c.step.ensures.visits in
    let more = c.count_more.ensures.more in
    let one = visit f c.down.count c.down.visits p c.step.new.visits c.one_more.result c.down.invariant.hand c.one_more.ensures.one
    costs.printer costs.rises costs.counted in
    let took = takes f p c.down.invariant.hand one (c.in-Err.ensures.visits.within tt) costs.counted costs.few c.down.invariant.spends in
    record {
      advances = rw more (advances_refused c.down.invariant.hand one);
      past = tt;
      spends = rw more (λ plain. spends_error f p took plain);
      course = rw more
          (λ u has on. course_refused (c.down.invariant.course u has on) has
          (asks_in_part f (make_task c.down.indent c.down.mode (f c.down.node)) p c.down.invariant.hand.options costs.rises costs.counted
          costs.reads_at_most));
      pays = rw more (λ free. pays_error f p took _ (c.down.invariant.pays free));
      start = tt;
      summed = tt;
    }
