use Rattle.std.proofs.Common.{◌≡◌, ℕ, Bool, true, false, cond, length, Option, Some, None, ap, arith}
use Rattle.json_grammar.specs.Faults.{begins_value, plain_front}
use Rattle.json_grammar.specs.Next.{after_value}
use Rattle.json_grammar.specs.Readings.{innermost_bracket}
use Rattle.json_grammar.specs.Steps.{json_reading_of}
use Rattle.json_grammar.specs.declared.expected.Expected.{Expected}
use Rattle.json_grammar.proofs.Reached.{front_within}
use Rattle.json_grammar.proofs.fault.stop_in_word.Goals as goal

abbrev held : ℕ × Expected → Option (ℕ × Expected) → ℕ × Expected
held p None = p
held p (Some q) = q

-- the value that a word begins with
found : (b : Bool) (n m : ℕ) (e f g : Expected)
    → ◌≡◌ {A = Option (ℕ × Expected)} (Some (m, f)) (cond b (Some (n, e)) None) → (m ≡ cond b n 0) × (f ≡ cond b e g)
found true n m e f g h = (ap (λ (o : Option (ℕ × Expected)). (held (n, e) o).0) h, ap (λ (o : Option (ℕ × Expected)). (held (n, e) o).1) h)
found false n m e f g h = absurd (cc)

pub returns-in-Some : goal.returns-in-Some
returns-in-Some c = λ same.
    let r = json_reading_of c.args.reading.now in
    let word = c.args.word.now in
    let begins = begins_value r word in
    let h : ◌≡◌ {A = Option (ℕ × Expected)} (Some (c.in-Some.len, c.in-Some.expected))
    (cond begins (Some (length (plain_front word), after_value (innermost_bracket r.open_brackets))) None) =
    cc (c.in_ok-len.ensures, c.in-Some.is) in
    let w =
    found begins (length (plain_front word)) c.in-Some.len (after_value (innermost_bracket r.open_brackets)) c.in-Some.expected r.next h in
    (c.in-Some.len, omega (arith, w.0, front_within begins word, c.saturating_add.ensures), w)
