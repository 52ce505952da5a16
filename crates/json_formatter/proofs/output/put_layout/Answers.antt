use Rattle.std.proofs.Common.{List, ℕ, ap, sym, ◌≡◌, ◌∙◌, ◌++◌, append_assoc}
use Rattle.json_lexemes.specs.View.{text_of}
use Rattle.json_formatter.specs.Kept.{spelled_bytes}
use Rattle.json_formatter.proofs.Outputs.{hands_both, hands_more, hands_same, on_err, stops_in, stops_same}
use Rattle.json_formatter.proofs.output.put_layout.Goals as goal

-- the lexeme that was not held comes after what was put and what was held
then : (all done layout more rest : List ℕ) → all ≡ done ++ layout → layout ≡ more ++ rest → all ≡ (done ++ more) ++ rest
then all done layout more rest e f = e ∙ ap (λ (l : List ℕ). done ++ l) f ∙ sym (append_assoc done more rest)

pub returns-in_err-put_spelled-clause-beginning : goal.returns-in_err-put_spelled-clause-beginning
returns-in_err-put_spelled-clause-beginning g c =
    let i = c.loop-gap.invariant in
    let n = c.in-Some.ensures.held in
    let held = c.args.held.now.bytes in
    let part = c.hold_some.new.held.bytes in
    let gap = spelled_bytes c.in-Some.gap in
    let rest = text_of c.in-Some.lexeme ++ c.hold_some.new.layout in
    on_err c.from_residual.result
    (stops_in held part c.args.layout.now (i.0 ++ n.0) gap rest (then c.args.layout.now i.0 c.loop-gap.layout n.0 (gap ++ rest) i.1 n.2)
    (hands_more held c.loop-gap.held.bytes part i.0 n.0 i.2 n.1) c.in_err-put_spelled.ensures.beginning)

pub loop-gap-preserved : goal.loop-gap-preserved
loop-gap-preserved g c =
    let i = c.loop-gap.invariant in
    let n = c.in-Some.ensures.held in
    let held = c.args.held.now.bytes in
    let part = c.hold_some.new.held.bytes in
    let gap = spelled_bytes c.in-Some.gap in
    let text = text_of c.in-Some.lexeme in
    let rest = c.hold_some.new.layout in
    let done = i.0 ++ n.0 in
    let given = hands_more held c.loop-gap.held.bytes part i.0 n.0 i.2 n.1 in
    let before = hands_both held part c.put_spelled.new.held.bytes done gap given c.in_ok-put_spelled.ensures.ok in
    let after =
    hands_same c.put_spelled.new.held.bytes c.put.new.held.bytes c.text.result.now text c.text.ensures c.in_ok-put.ensures.ok in (
      (done ++ gap) ++ text,
      then c.args.layout.now i.0 c.loop-gap.layout n.0 (gap ++ (text ++ rest)) i.1 n.2
          ∙ sym (append_assoc done gap (text ++ rest))
          ∙ sym (append_assoc (done ++ gap) text rest),
      hands_both held c.put_spelled.new.held.bytes c.put.new.held.bytes (done ++ gap) text before after,
    )

pub returns-in_err-put-clause-beginning : goal.returns-in_err-put-clause-beginning
returns-in_err-put-clause-beginning g c =
    let i = c.loop-gap.invariant in
    let n = c.in-Some.ensures.held in
    let held = c.args.held.now.bytes in
    let part = c.hold_some.new.held.bytes in
    let gap = spelled_bytes c.in-Some.gap in
    let text = text_of c.in-Some.lexeme in
    let rest = c.hold_some.new.layout in
    let done = i.0 ++ n.0 in
    let given = hands_more held c.loop-gap.held.bytes part i.0 n.0 i.2 n.1 in
    let before = hands_both held part c.put_spelled.new.held.bytes done gap given c.in_ok-put_spelled.ensures.ok in
    let fails = stops_same c.put_spelled.new.held.bytes c.text.result.now text c.text.ensures c.in_err-put.ensures.beginning in
    on_err c.from_residual-in_err-put.result
    (stops_in held c.put_spelled.new.held.bytes c.args.layout.now (done ++ gap) text rest
    (then c.args.layout.now i.0 c.loop-gap.layout n.0 (gap ++ (text ++ rest)) i.1 n.2
    ∙ sym (append_assoc done gap (text ++ rest))) before fails)

pub returns-clause-ok : goal.returns-clause-ok
returns-clause-ok g c =
    let i = c.loop-gap.invariant in
    let held = c.args.held.now.bytes in
    let part = c.hold_some.new.held.bytes in
    hands_same held part (i.0 ++ c.loop-gap.layout) c.args.layout.now (sym i.1)
    (hands_more held c.loop-gap.held.bytes part i.0 c.loop-gap.layout i.2 c.in_default.ensures.held.0)
