use Rattle.std.proofs.Common.{◌≡◌, ◌+◌, ◌-◌, subst, arith, ℕ, drop}
use Rattle.editor_config.specs.Patterns.{IsAtEach, part_then, parts_then}
use Rattle.editor_config.proofs.Steps.{parts_step}
use Rattle.editor_config.proofs.pattern.put_parts_before.Goals as goal

pub loop-place-preserved : goal.loop-place-preserved
loop-place-preserved c rest each =
    let place : ℕ = c.loop-place.place - 1 in
    let part = c.index-parts-place.result in
    let path = c.args.path.now in
    let next : c.loop-place.place ≡ place + 1 = omega arith in
    let fits = c.put_before.new.fits in
    parts_step path fits c.args.parts.now place rest part (omega arith) c.index-parts-place.is
    (subst (λ (n : ℕ). IsAtEach (part_then part (parts_then (drop n c.args.parts.now) rest)) path fits) next
    (c.put_before.ensures (parts_then (drop c.loop-place.place c.args.parts.now) rest) (c.loop-place.invariant rest each)))

pub returns : goal.returns
returns c rest each =
    let end : c.loop-place.place ≡ 0 = omega arith in
    subst (λ (n : ℕ). IsAtEach (parts_then (drop n c.args.parts.now) rest) c.args.path.now c.loop-place.fits) end
    (c.loop-place.invariant rest each)
