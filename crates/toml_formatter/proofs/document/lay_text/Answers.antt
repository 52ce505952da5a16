use Rattle.std.proofs.Common.{sym}
use Rattle.std.specs.String.{string_bytes}
use Rattle.toml_formatter.proofs.PressLemmas.{same_left, text_laid, text_shallow, text_shown}
use Rattle.toml_formatter.proofs.document.lay_text.Goals as goal

pub loop-first-init : goal.loop-first-init
loop-first-init c = same_left c.args.press.now c.new-laid.result (sym c.new-lexemes.ensures) c.new-laid.ensures

pub lay_apart-requires-clause-laid : goal.lay_apart-requires-clause-laid
lay_apart-requires-clause-laid c = same_left c.args.press.now c.loop-first.laid c.in-Some.ensures.next c.loop-first.invariant

pub returns-clause-ok : goal.returns-clause-ok
returns-clause-ok c =
    text_shown c.args.press.now c.loop-first.laid
    (same_left c.args.press.now c.loop-first.laid c.in_default.ensures.next.0 c.loop-first.invariant)
    (string_bytes c.in_ok-finish.field-0) c.in_ok-finish.ensures

pub returns-clause-laid : goal.returns-clause-laid
returns-clause-laid c =
    text_laid c.args.press.now c.loop-first.laid
    (same_left c.args.press.now c.loop-first.laid c.in_default.ensures.next.0 c.loop-first.invariant)
    (string_bytes c.in_ok-finish.field-0) c.in_ok-finish.ensures

pub returns-clause-shallow : goal.returns-clause-shallow
returns-clause-shallow c =
    text_shallow c.args.press.now c.loop-first.laid
    (same_left c.args.press.now c.loop-first.laid c.in_default.ensures.next.0 c.loop-first.invariant)
    (string_bytes c.in_ok-finish.field-0) c.in_ok-finish.ensures
