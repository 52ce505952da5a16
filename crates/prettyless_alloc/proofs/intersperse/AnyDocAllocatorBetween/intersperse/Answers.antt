use Rattle.std.proofs.Common.{rules, refl, inl, inr, [], ◌∷◌}
use Rattle.std.proofs.lemmas.Result.{IfOk-weaker, IfErr-weaker}
use Rattle.prettyless_doc.specs.DocTree.{built}
use Rattle.prettyless_model.specs.Tree.{Tree}
use Rattle.prettyless_alloc.proofs.Walks.{gives_first, gives_later, gives_two, drains_later}
use Rattle.prettyless_alloc.proofs.intersperse.AnyDocAllocatorBetween.intersperse.Goals as goal

pub returns-in_err-first-clause-err : goal.returns-in_err-first-clause-err
returns-in_err-first-clause-err g c =
    IfErr-weaker c.from_residual.result (g.I.Item.Pretty.refuses c.in-Some.first) _
    (λ e p. inr (inr (
      c.into_iter-items.result,
      c.into_iter-items.ensures.into_iter_gives,
      gives_first g.I.IntoIter.Iterator.next_gives c.into_iter-items.result c.next.new.self c.in-Some.first c.in-Some.ensures.steps _ p,
    )))
    (search rules)

pub returns-in_default-next-clause-ok : goal.returns-in_default-next-clause-ok
returns-in_default-next-clause-ok g c = (
  c.in-Some.first ∷ [],
  (
    c.into_iter-items.result,
    c.into_iter-items.ensures.into_iter_gives,
    (c.next-2.new.self, (c.next.new.self, (c.next.new.self, c.in-Some.ensures.steps, refl), c.in_default-next.ensures.steps)),
  ),
  c.in_ok-first.ensures.ok,
)

pub returns-in_err-second-clause-err : goal.returns-in_err-second-clause-err
returns-in_err-second-clause-err g c =
    IfErr-weaker c.from_residual-in_err-second.result (g.I.Item.Pretty.refuses c.in-Some-next.second) _
    (λ e p. inr (inr (
      c.into_iter-items.result,
      c.into_iter-items.ensures.into_iter_gives,
      gives_later g.I.IntoIter.Iterator.next_gives c.into_iter-items.result c.next.new.self c.in-Some.first c.in-Some.ensures.steps _
          (gives_first g.I.IntoIter.Iterator.next_gives c.next.new.self c.next-2.new.self c.in-Some-next.second
          c.in-Some-next.ensures.steps _ p),
    )))
    (search rules)

pub returns-clause-ok : goal.returns-clause-ok
returns-clause-ok g c =
    let tree = built g.D.Doc.DocPtr.tree in
    let first : Tree = tree c.in_ok-first.first.1 in
    let second : Tree = tree c.in_ok-second.second.1 in
    IfOk-weaker c.with_gaps.result _ _
    (λ b h. (
      c.in-Some.first ∷ c.in-Some-next.second ∷ h.1,
      (
        c.into_iter-items.result,
        c.into_iter-items.ensures.into_iter_gives,
        drains_later g.I.IntoIter.Iterator.next_gives
            c.into_iter-items.result c.next.new.self c.in-Some.first c.in-Some.ensures.steps (c.in-Some-next.second ∷ h.1)
            (drains_later g.I.IntoIter.Iterator.next_gives c.next.new.self c.next-2.new.self c.in-Some-next.second
            c.in-Some-next.ensures.steps h.1 h.3),
      ),
      (first, h.0, c.in_ok-first.ensures.ok, h.2, (_, (second, c.in_ok-second.ensures.ok, refl), h.4)),
    ))
    c.with_gaps.ensures.ok

pub returns-clause-err : goal.returns-clause-err
returns-clause-err g c =
    let steps = g.I.IntoIter.Iterator.next_gives in
    IfErr-weaker c.with_gaps.result _ _
    (λ e h. elim h [
      | inl m ↦ inl m
      | inr (inl r) ↦ inr (inl (
        r,
        (
          c.into_iter-items.result,
          c.into_iter-items.ensures.into_iter_gives,
          gives_two steps c.into_iter-items.result c.next.new.self c.in-Some.first c.in-Some.ensures.steps c.in-Some-next.second
              c.next-2.new.self c.in-Some-next.ensures.steps,
        ),
      ))
      | inr (inr n) ↦ inr (inr (
        c.into_iter-items.result,
        c.into_iter-items.ensures.into_iter_gives,
        gives_later steps c.into_iter-items.result c.next.new.self c.in-Some.first c.in-Some.ensures.steps _
            (gives_later steps c.next.new.self c.next-2.new.self c.in-Some-next.second c.in-Some-next.ensures.steps _ n),
      ))
    ])
    c.with_gaps.ensures.err
