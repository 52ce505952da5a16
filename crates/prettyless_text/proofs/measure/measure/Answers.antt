use Rattle.std.proofs.Common.{◌∙◌, ap, sym}
use Rattle.std.specs.Option.{option_copied}
use Rattle.prettyless_trees.specs.Breaks.{parts_left}
use Rattle.prettyless_text.proofs.Measured.{Splits, measured, measured-first, measured-later}
use Rattle.prettyless_text.proofs.measure.measure.Goals as goal

pub loop-rest-init : goal.loop-rest-init
loop-rest-init c =
    let e = c.split_part.ensures in
    let split : Splits c.args.source.now _ _ _ =
    record { width_is = e.width; nonempty_is = e.nonempty; left_is = e.rest }
    in measured-first _ _ _ _ split

pub loop-rest-preserved : goal.loop-rest-preserved
loop-rest-preserved c =
    let e = c.split_part-in-Some.ensures in
    let split : Splits c.in-Some.text.now _ _ _ =
    record { width_is = e.width; nonempty_is = e.nonempty; left_is = e.rest }
    in
    measured-later c.loop-rest.metrics _ _ _ _ _ split c.max.ensures
    ∙ ap (λ r. measured c.loop-rest.metrics (parts_left (option_copied r))) (sym c.in-Some.is)
    ∙ c.loop-rest.invariant
