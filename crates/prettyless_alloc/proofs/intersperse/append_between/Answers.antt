use Rattle.std.proofs.Common.{rules, refl, ap, sym, ◌∙◌, subst, ◌∷◌, inl, inr}
use Rattle.std.proofs.lemmas.Result.{IfOk-weaker, IfErr-weaker}
use Rattle.prettyless_doc.specs.DocTree.{built}
use Rattle.prettyless_model.specs.Tree.{Tree}
use Rattle.prettyless_trees.specs.Built.{IsNotNil, append}
use Rattle.prettyless_alloc.proofs.Walks.{drains_later, gives_first, gives_later, some_after, some_before}
use Rattle.prettyless_alloc.proofs.intersperse.append_between.Goals as goal

pub returns-in_err-next-clause-err : goal.returns-in_err-next-clause-err
returns-in_err-next-clause-err g c =
    IfErr-weaker c.from_residual.result (g.I.Item.Pretty.refuses c.in-Some.item) _
    (λ e p. inr (gives_first g.I.Iterator.next_gives c.args.items c.next.new.self c.in-Some.item c.in-Some.ensures.steps _ p))
    (search rules)

pub append_placed-requires : goal.append_placed-requires
append_placed-requires g c =
    let tree = built g.D.Doc.DocPtr.tree in
    let gap : Tree = g.D.Doc.DocPtr.tree c.args.gap in
    let all : Tree = tree c.args.all.1 in
    let last : Tree = tree c.args.last.1 in
    let begun = c.in_ok-begun.ensures.ok ∙ c.in_ok-join_after.ensures.ok
    ∙ ap (λ (k : Tree). append (append all k) last) c.in_ok-copy.ensures.ok in
    λ k. (
      (refl, tt),
      (
        search rules,
        (
          search rules,
          (subst IsNotNil (sym begun) (some_before (append all gap) last (some_after all gap c.requires.some)), c.requires.some),
        ),
      ),
    )

pub returns-clause-ok : goal.returns-clause-ok
returns-clause-ok g c =
    let tree = built g.D.Doc.DocPtr.tree in
    let gap : Tree = g.D.Doc.DocPtr.tree c.args.gap in
    let all : Tree = tree c.args.all.1 in
    let last : Tree = tree c.args.last.1 in
    let next : Tree = tree c.in_ok-next.next.1 in
    let begun = c.in_ok-begun.ensures.ok ∙ c.in_ok-join_after.ensures.ok
    ∙ ap (λ (k : Tree). append (append all k) last) c.in_ok-copy.ensures.ok in
    IfOk-weaker c.append_placed.result _ _
    (λ b h. (
      c.in-Some.item ∷ h.0,
      drains_later g.I.Iterator.next_gives c.args.items c.next.new.self c.in-Some.item c.in-Some.ensures.steps h.0 h.1,
      (_, (next, c.in_ok-next.ensures.ok, ap (λ (a : Tree). append (append a gap) next) begun), h.2),
    ))
    c.append_placed.ensures.ok

pub returns-clause-err : goal.returns-clause-err
returns-clause-err g c =
    IfErr-weaker c.append_placed.result _ _
    (λ e h. elim h [
      | inl m ↦ inl m
      | inr n ↦ inr (gives_later g.I.Iterator.next_gives c.args.items c.next.new.self c.in-Some.item c.in-Some.ensures.steps _ n)
    ])
    c.append_placed.ensures.err
