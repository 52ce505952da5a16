use Rattle.std.proofs.Common.{◌≡◌, ◌∙◌, ◌+◌, ◌-◌, ◌&&◌, ◌||◌, sym, ap, ap₂, subst, arith, ℕ, Bool, false, get_or}
use Rattle.std.proofs.lemmas.List.{get_or_default}
use Rattle.editor_config.specs.Patterns.{many_then, takes_character}
use Rattle.editor_config.proofs.Passing.{IsTurnedAt, many_step, turned_whole}
use Rattle.editor_config.proofs.part.PatternPart.put_many_before.Goals as goal
use Rattle.editor_config.proofs.part.PatternPart.put_many_before.Goals.{then-fits-place, else-fits-place+then-takes}
use Rattle.editor_config.proofs.part.PatternPart.put_many_before.Goals.{else-fits-place+else-takes}

pub loop-place-preserved : goal.loop-place-preserved
loop-place-preserved c rest each =
    let place : ℕ = c.loop-place.place - 1 in
    let fits = c.loop-place.fits in
    let path = c.args.path.now in
    let part = c.args.self.now in
    let next : c.loop-place.place ≡ place + 1 = omega arith in
    let after : Bool = get_or fits (place + 1) false in
    let took : c.takes-takes.result ≡ takes_character part (get_or path place 0)
    = c.takes-takes.ensures ∙ ap (takes_character part)
    (c.index-path-place.is ∙ get_or_default path place c.index-path-place.result 0 (omega arith)) in
    let value : c.if-fits-place.fits ≡ (get_or fits place false || (c.takes-takes.result && after))
    = elim c.if-fits-place.branch [
      | then-fits-place w ↦
          w.fits-is ∙ (w.if-fits-place.true ∙ ap (λ (b : Bool). b || (c.takes-takes.result && after)) (sym w.if-fits-place.true))
      | else-fits-place+then-takes w ↦
          w.fits-is ∙ ap₂ (λ (b : Bool) (t : Bool). b || (t && after)) (sym w.if-fits-place.false) (sym w.if-takes.true)
      | else-fits-place+else-takes w ↦
          w.fits-is ∙ (w.if-takes.false
          ∙ ap₂ (λ (b : Bool) (t : Bool). b || (t && after)) (sym w.if-fits-place.false) (sym w.if-takes.false))
    ] in
    many_step (takes_character part) rest path fits place c.if-fits-place.fits (omega arith)
    (value ∙ ap (λ (b : Bool). get_or fits place false || (b && after)) took)
    (subst (λ (n : ℕ). IsTurnedAt rest (many_then (takes_character part) rest) path n fits) next (c.loop-place.invariant rest each))

pub returns : goal.returns
returns c rest each =
    let end : c.loop-place.place ≡ 0 = omega arith in
    turned_whole rest (many_then (takes_character c.args.self.now) rest) c.args.path.now c.loop-place.fits
    (subst (λ (n : ℕ). IsTurnedAt rest (many_then (takes_character c.args.self.now) rest) c.args.path.now n c.loop-place.fits) end
    (c.loop-place.invariant rest each))
