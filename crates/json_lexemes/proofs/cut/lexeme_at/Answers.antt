use Rattle.std.proofs.Common.{arith, false, get_or, length, refl, subst, sym, ◌+◌, ◌≡◌, ◌≢◌, ◌≤◌}
use Rattle.std.proofs.lemmas.Grind.{common_steps}
use Rattle.json.specs.Word.{is_operator}
use Rattle.json_lexemes.specs.View.{IsFirst}
use Rattle.json_lexemes.proofs.Firsts.{no_operator, first_sign, first_string, first_word, boundary_after, boundary_before}
use Rattle.json_lexemes.proofs.cut.lexeme_at.Goals as goal

pub returns-in-123-clause-first : goal.returns-in-123-clause-first
returns-in-123-clause-first c = first_sign c.args.text.now c.args.place c.requires.within 123 c.utf8.text
    (rw (← c.as_bytes-bytes.ensures.value) c.in-123.is) refl

pub returns-in-125-clause-first : goal.returns-in-125-clause-first
returns-in-125-clause-first c = first_sign c.args.text.now c.args.place c.requires.within 125 c.utf8.text
    (rw (← c.as_bytes-bytes.ensures.value) c.in-125.is) refl

pub returns-in-91-clause-first : goal.returns-in-91-clause-first
returns-in-91-clause-first c = first_sign c.args.text.now c.args.place c.requires.within 91 c.utf8.text
    (rw (← c.as_bytes-bytes.ensures.value) c.in-91.is) refl

pub returns-in-93-clause-first : goal.returns-in-93-clause-first
returns-in-93-clause-first c = first_sign c.args.text.now c.args.place c.requires.within 93 c.utf8.text
    (rw (← c.as_bytes-bytes.ensures.value) c.in-93.is) refl

pub returns-in-44-clause-first : goal.returns-in-44-clause-first
returns-in-44-clause-first c = first_sign c.args.text.now c.args.place c.requires.within 44 c.utf8.text
    (rw (← c.as_bytes-bytes.ensures.value) c.in-44.is) refl

pub returns-in-58-clause-first : goal.returns-in-58-clause-first
returns-in-58-clause-first c = first_sign c.args.text.now c.args.place c.requires.within 58 c.utf8.text
    (rw (← c.as_bytes-bytes.ensures.value) c.in-58.is) refl

pub range-requires-clause-end_boundary : goal.range-requires-clause-end_boundary
range-requires-clause-end_boundary c =
    let same = c.as_bytes-bytes.ensures.value in
    boundary_after c.args.text.now (c.args.place + 1) c.string_end.result c.utf8.text (rw (← same) c.string_end.ensures.bounds.1)
    (rw (← same) c.string_end.ensures.closed)

pub returns-in-34-clause-first : goal.returns-in-34-clause-first
returns-in-34-clause-first c =
    let d = c.args.text.now in
    let end = c.string_end.result in
    let same = c.as_bytes-bytes.ensures.value in
    let within : end ≤ length d = rw (← same) c.string_end.ensures.bounds.1 in
    let boundary = boundary_after d (c.args.place + 1) end c.utf8.text within (rw (← same) c.string_end.ensures.closed) in
    subst (IsFirst d c.args.place) (sym c.range.ensures.value)
    (first_string d c.args.place c.requires.within end c.string_end.ensures.bounds.0 within (rw (← same) c.in-34.is)
    (rw (← same) c.string_end.ensures.cut) boundary)

pub returns-in_default-clause-first : goal.returns-in_default-clause-first
returns-in_default-clause-first c =
    let d = c.args.text.now in
    let end = c.word_end.result in
    let same = c.as_bytes-bytes.ensures.value in
    let within : end ≤ length d = rw (← same) c.word_end.ensures.bounds.1 in
    let boundary = boundary_before d end within (rw (← same) c.word_end.ensures.ended) in
    let x = get_or c.as_bytes-bytes.result.now c.args.place 0 in
    let no_quote : x ≢ 34 = λ e. omega arith in
    let no_sign : is_operator x ≡ false = no_operator x (λ e. omega arith) (λ e. omega arith) (λ e. omega arith) (λ e. omega arith)
    (λ e. omega arith) (λ e. omega arith) in
    let no_space = c.requires.begins in
    subst (IsFirst d c.args.place) (sym c.range-in_default.ensures.value)
    (first_word d c.args.place c.requires.within end c.word_end.ensures.bounds.0 within (rw (← same) no_quote)
    (rw (← same) no_sign) no_space
    (rw (← same) c.word_end.ensures.cut) boundary)

pub returns-in-34-clause-named : goal.returns-in-34-clause-named
returns-in-34-clause-named c = grind (arith, common_steps)

pub returns-in_default-clause-named : goal.returns-in_default-clause-named
returns-in_default-clause-named c = grind (arith, common_steps)
