use Rattle.std.proofs.Common.{sym, subst, Bool, if◌then◌else◌}
use Rattle.editor_config.specs.Patterns.{IsAtEach, Test, many_then, one_then, takes_character}
use Rattle.editor_config.proofs.part.PatternPart.put_before.Goals as goal

-- the test of a part that repeats, or of one that does not
abbrev by : (many one : Test) → Bool → Test
by many one repeats text = if repeats then many text else one text

pub returns-then-self : goal.returns-then-self
returns-then-self c rest each =
    let passes = takes_character c.args.self.now in
    subst (λ (b : Bool). IsAtEach (by (many_then passes rest) (one_then passes rest) b) c.args.path.now c.put_many_before.new.fits)
    (sym c.if-self.true) (c.put_many_before.ensures rest each)

pub returns-else-self : goal.returns-else-self
returns-else-self c rest each =
    let passes = takes_character c.args.self.now in
    subst (λ (b : Bool). IsAtEach (by (many_then passes rest) (one_then passes rest) b) c.args.path.now c.put_one_before.new.fits)
    (sym c.if-self.false) (c.put_one_before.ensures rest each)
