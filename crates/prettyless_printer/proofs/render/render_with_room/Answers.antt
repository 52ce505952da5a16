use Rattle.std.proofs.Common.{◌≡◌, ℕ, [], ap, arith, subst}
use Rattle.prettyless_sink.specs.declared.visits.Visits.{Visits}
use Rattle.prettyless_model.specs.Tree.{size}
use Rattle.prettyless_probe.proofs.Sizes.{size_positive}
use Rattle.prettyless_printer.specs.Points.{seen_by, standing}
use Rattle.prettyless_printer.specs.CourseOf.{EndCourse, around, place_at, refused_after}
use Rattle.prettyless_printer.specs.Linear.{IsLinearBound}
use Rattle.prettyless_printer.specs.Renders.{Renders}
use Rattle.prettyless_printer.proofs.Courses.{come_same, refused_here}
use Rattle.prettyless_printer.proofs.RunCourses.{begun_course}
use Rattle.prettyless_printer.proofs.DueRounds.{pays_to_end}
use Rattle.prettyless_printer.proofs.Shifted.{begins_few, begins_linear, begins_small, begun_renders, refused_renders}
use Rattle.prettyless_printer.proofs.render.render_with_room.Goals as goal

pub returns-in-Ok-clause-renders : goal.returns-in-Ok-clause-renders
returns-in-Ok-clause-renders g c =
    let see = seen_by g.W.Render in
    let ran = c.run_with_shift-result in
    let fails = g.W.Render.document_errors ran.new.out in
    let before = c.in-Ok.ensures.visits in
    let all = c.saturating_add.result in
    let none_now : all ≡ 0 → ran.new.refused ≡ 0 = λ none. omega (arith, none, c.saturating_add.ensures, c.total.ensures) in
    subst (λ (v : Visits). Renders fails c.args.options (g.N.Walk.tree c.args.node) (see c.args.out.now) (see ran.new.out)
    (record { visits = v; refused = c.args.cost.now.refused })
    (record { visits = ran.new.self.visits; refused = all }) ran.result) before
    (begun_renders fails c.args.cost.now.refused all ran.result c.in-Ok.ensures.begins ran.ensures.ends.1
    (omega (arith, c.saturating_add.ensures)) (λ linear none. ran.ensures.few linear (none_now none))
    (λ free. pays_to_end none_now (ran.ensures.pays free c.in-Ok.ensures.start)))

pub returns-in-Ok-clause-twice : goal.returns-in-Ok-clause-twice
returns-in-Ok-clause-twice g c = λ linear small none.
    let d = g.N.Walk.tree c.args.node in
    let ran = c.run_with_shift-result in
    let begins = c.in-Ok.ensures.begins in
    subst (λ (v : Visits). IsLinearBound 2 0 (size d) v ran.new.self.visits) c.in-Ok.ensures.visits
    (begins_few 2 0 c.in-Ok.run'.visits ran.new.self.visits begins
    (ran.ensures.twice (begins_linear begins linear) (omega (arith, none, c.saturating_add.ensures, c.total.ensures))
    (omega (arith, small, size_positive d)) (begins_small c.args.room begins small)))

-- the document is refused memory
pub returns-in-Err-clause-renders : goal.returns-in-Err-clause-renders
returns-in-Err-clause-renders g c =
    refused_renders (g.W.Render.document_errors c.args.out.now) c.args.options (g.N.Walk.tree c.args.node)
    (seen_by g.W.Render c.args.out.now) c.args.cost.now _

-- from its first node on, it goes along its course
pub returns-in-Ok-clause-course : goal.returns-in-Ok-clause-course
returns-in-Ok-clause-course g c =
    let ran = c.run_with_shift-result in
    let old = c.args.cost.now.refused in
    let first : refused_after old c.none-refused.result ≡ old = omega (arith, c.none-refused.ensures) in
    let last : refused_after old ran.new.refused ≡ c.saturating_add.result = omega (arith, c.saturating_add.ensures, c.total.ensures) in
    begun_course g.N.Walk.HAS_SUMMARIES c.args.cost.now (record { visits = ran.new.self.visits; refused = c.saturating_add.result })
    ran.result c.in-Ok.ensures.begins (ap (λ (v : Visits). v.probes) c.in-Ok.ensures.visits) first
    (subst (λ (n : ℕ). EndCourse c.in-Ok.run'.printer.options
    (place_at (standing g.N.Walk.tree c.in-Ok.run'.printer) c.in-Ok.run'.visits.probes
    (around [] g.N.Walk.HAS_SUMMARIES (refused_after old c.none-refused.result)))
    ran.new.self.visits.probes n ran.result) last (ran.ensures.course old))

pub returns-in-Err-clause-course : goal.returns-in-Err-clause-course
returns-in-Err-clause-course g c = refused_here (come_same _ _)
