use Rattle.std.proofs.Common.{arith, get_or, length, subst, ◌-◌, ◌≡◌}
use Rattle.std.proofs.lemmas.Grind.{common_steps}
use Rattle.prettyless_probe.proofs.Stacks.{indent_here, indent_below}
use Rattle.prettyless_probe.proofs.stack.Stack.next_indent.Goals as goal

pub returns-then-self-len : goal.returns-then-self-len
returns-then-self-len g c =
    let s = c.args.self.now in
    indent_here g.N.Walk.tree s.frames.items s.here s.nodes.items c.args.other s.rises
    (omega (arith, c.if-self-len.true, c.len.ensures, s.nodes.ok.0))

pub returns : goal.returns
returns g c =
    let s = c.args.self.now in
    let frame = c.index-frame.result.now in
    let depth : c.len-depth.result ≡ length s.frames.items = omega (arith, c.len-depth.ensures, s.frames.ok.0) in
    indent_below g.N.Walk.tree s.frames.items s.here frame s.nodes.items c.args.other s.rises
    (omega (arith, c.if-self-len.false, c.len.ensures, s.nodes.ok.0, s.top)) (omega (arith, c.if-depth-eq0.false, depth))
    (subst (λ k. frame ≡ get_or s.frames.items (k - 1) frame) depth c.index-frame.ensures)

pub returns-then-depth-eq0 : goal.returns-then-depth-eq0
returns-then-depth-eq0 g c = grind (arith, common_steps)
