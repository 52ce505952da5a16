use Rattle.std.proofs.Common.{rules, refl, sym, ◌∙◌, subst, inl, inr}
use Rattle.std.proofs.lemmas.Result.{IfOk-weaker, IfErr-weaker}
use Rattle.std.specs.List.{FoldsTo}
use Rattle.prettyless_doc.specs.DocTree.{built}
use Rattle.prettyless_model.specs.Tree.{Tree}
use Rattle.prettyless_trees.specs.Built.{IsNotNil}
use Rattle.prettyless_build.specs.Iterated.{appends_after}
use Rattle.prettyless_alloc.proofs.Walks.{nil_from, between_nothing, nothing_between, some_from}
use Rattle.prettyless_alloc.proofs.intersperse.with_gaps.Goals as goal

pub returns-in_err-separator-clause-err : goal.returns-in_err-separator-clause-err
returns-in_err-separator-clause-err g c =
    IfErr-weaker c.from_residual.result (g.S.Pretty.refuses c.args.separator) _ (λ e p. inr (inl p)) (search rules)

pub returns-then-is_nil-clause-ok : goal.returns-then-is_nil-clause-ok
returns-then-is_nil-clause-ok g c =
    let tree = built g.D.Doc.DocPtr.tree in
    let gap : Tree = tree c.in_ok-separator.separator.1 in
    let nothing = sym c.doc.ensures ∙ nil_from _ (sym c.is_nil.ensures ∙ c.if-is_nil.true) in
    let joined = nothing_between gap (tree c.args.first.1) (tree c.args.second.1) _ nothing c.in_ok-join.ensures.ok in
    IfOk-weaker c.append_all.result _ _
    (λ b h. (
      gap,
      h.0,
      c.in_ok-separator.ensures.ok,
      h.1,
      subst (λ (t : Tree). FoldsTo (appends_after gap g.I.Item.Pretty.becomes) t h.0 (tree b.1)) joined
          (between_nothing _ _ _ _ _ nothing h.2),
    ))
    c.append_all.ensures.ok

pub returns-then-is_nil-clause-err : goal.returns-then-is_nil-clause-err
returns-then-is_nil-clause-err g c =
    IfErr-weaker c.append_all.result _ _
    (λ e h. elim h [
      | inl m ↦ inl m
      | inr n ↦ inr (inr n)
    ])
    c.append_all.ensures.err

pub append_between-requires : goal.append_between-requires
append_between-requires g c = λ k. (
  (refl, tt),
  (
    search rules,
    (
      search rules,
      subst IsNotNil (c.doc.ensures ∙ sym c.in_ok-gap.ensures.ok) (some_from _ (sym c.is_nil.ensures ∙ c.if-is_nil.false)),
    ),
  ),
)

pub returns-clause-ok : goal.returns-clause-ok
returns-clause-ok g c =
    let gap = g.D.Doc.DocPtr.tree c.in_ok-gap.gap in
    let made = subst (g.S.Pretty.becomes c.args.separator) (sym c.in_ok-gap.ensures.ok) c.in_ok-separator.ensures.ok in
    IfOk-weaker c.append_between.result _ _ (λ b h. (gap, h.0, made, h.1, h.2)) c.append_between.ensures.ok

pub returns-clause-err : goal.returns-clause-err
returns-clause-err g c =
    IfErr-weaker c.append_between.result _ _
    (λ e h. elim h [
      | inl m ↦ inl m
      | inr n ↦ inr (inr n)
    ])
    c.append_between.ensures.err
