use Rattle.std.proofs.Common.{◌≡◌, ◌∙◌, ◌+◌, ◌&&◌, sym, ap, subst, arith, ℕ, Bool, false, length, get_or}
use Rattle.std.proofs.lemmas.List.{get_or_default}
use Rattle.editor_config.specs.Patterns.{one_then, takes_character}
use Rattle.editor_config.proofs.Passing.{IsTurnedAt, one_end, one_step}
use Rattle.editor_config.proofs.part.PatternPart.put_one_before.Goals as goal
use Rattle.editor_config.proofs.part.PatternPart.put_one_before.Goals.{then-takes, else-takes}

pub loop-place-preserved : goal.loop-place-preserved
loop-place-preserved c rest each =
    let after : Bool = get_or c.loop-place.fits (c.loop-place.place + 1) false in
    let took : c.takes-takes.result ≡ takes_character c.args.self.now (get_or c.args.path.now c.loop-place.place 0)
    = c.takes-takes.ensures ∙ ap (takes_character c.args.self.now)
    (c.index-path-place.is ∙ get_or_default c.args.path.now c.loop-place.place c.index-path-place.result 0 (omega arith)) in
    let value : c.if-takes.fits ≡ (c.takes-takes.result && after)
    = elim c.if-takes.branch [
      | then-takes w ↦ w.fits-is ∙ ap (λ (b : Bool). b && after) (sym w.if-takes.true)
      | else-takes w ↦ w.fits-is ∙ (w.if-takes.false ∙ ap (λ (b : Bool). b && after) (sym w.if-takes.false))
    ] in
    one_step (takes_character c.args.self.now) rest c.args.path.now c.loop-place.fits c.loop-place.place c.if-takes.fits (omega arith)
    (value ∙ ap (λ (b : Bool). b && after) took) (c.loop-place.invariant rest each)

pub returns : goal.returns
returns c rest each =
    let end : c.loop-place.place ≡ length c.args.path.now = omega arith in
    one_end (takes_character c.args.self.now) rest c.args.path.now c.loop-place.fits
    (subst (λ (n : ℕ). IsTurnedAt (one_then (takes_character c.args.self.now) rest) rest c.args.path.now n c.loop-place.fits) end
    (c.loop-place.invariant rest each))
