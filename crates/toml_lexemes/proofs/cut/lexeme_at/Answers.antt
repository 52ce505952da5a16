use Rattle.std.proofs.Common.{refl, arith}
use Rattle.text_lexemes.proofs.Firsts.{first_alone}
use Rattle.toml_lexemes.specs.Lexemes.{toml}
use Rattle.toml_lexemes.proofs.cut.lexeme_at.Goals as goal

pub returns-in-91-clause-first : goal.returns-in-91-clause-first
returns-in-91-clause-first c =
    let same = c.as_bytes.ensures.value in
    first_alone toml c.args.text.now c.args.place c.requires.within 91 c.utf8.text (rw (← same) c.in-91.is) refl refl (omega arith)

pub returns-in-93-clause-first : goal.returns-in-93-clause-first
returns-in-93-clause-first c =
    let same = c.as_bytes.ensures.value in
    first_alone toml c.args.text.now c.args.place c.requires.within 93 c.utf8.text (rw (← same) c.in-93.is) refl refl (omega arith)

pub returns-in-123-clause-first : goal.returns-in-123-clause-first
returns-in-123-clause-first c =
    let same = c.as_bytes.ensures.value in
    first_alone toml c.args.text.now c.args.place c.requires.within 123 c.utf8.text (rw (← same) c.in-123.is) refl refl (omega arith)

pub returns-in-125-clause-first : goal.returns-in-125-clause-first
returns-in-125-clause-first c =
    let same = c.as_bytes.ensures.value in
    first_alone toml c.args.text.now c.args.place c.requires.within 125 c.utf8.text (rw (← same) c.in-125.is) refl refl (omega arith)

pub returns-in-44-clause-first : goal.returns-in-44-clause-first
returns-in-44-clause-first c =
    let same = c.as_bytes.ensures.value in
    first_alone toml c.args.text.now c.args.place c.requires.within 44 c.utf8.text (rw (← same) c.in-44.is) refl refl (omega arith)

pub returns-in-61-clause-first : goal.returns-in-61-clause-first
returns-in-61-clause-first c =
    let same = c.as_bytes.ensures.value in
    first_alone toml c.args.text.now c.args.place c.requires.within 61 c.utf8.text (rw (← same) c.in-61.is) refl refl (omega arith)

pub returns-in-10-clause-first : goal.returns-in-10-clause-first
returns-in-10-clause-first c =
    let same = c.as_bytes.ensures.value in
    first_alone toml c.args.text.now c.args.place c.requires.within 10 c.utf8.text (rw (← same) c.in-10.is) refl refl (omega arith)
