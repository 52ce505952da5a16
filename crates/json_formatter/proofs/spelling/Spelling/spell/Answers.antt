use Rattle.std.proofs.Common.{sym}
use Rattle.json_formatter.proofs.Respelled.{plain_stays}
use Rattle.json_formatter.proofs.spelling.Spelling.spell.Goals as goal

pub returns-then-is_plain : goal.returns-then-is_plain
returns-then-is_plain c =
    let plain = c.is_plain.ensures c.if-is_plain.true in
    sym (plain_stays c.args.self c.args.gap plain.0 plain.1)
