use Rattle.std.proofs.Common.{◌∙◌, ap, subst, append_assoc, List, [], ◌∷◌, ◌++◌}
use Rattle.std.proofs.lemmas.Result.{IfOk-weaker}
use Rattle.prettyless_model.specs.Tree.{Tree, HardLine}
use Rattle.prettyless_model.specs.Shows.{Item, apart, loose, ended, shows, spaced}
use Rattle.prettyless_shapes.specs.Items.{ShowsBoth, ShowsMore}
use Rattle.prettyless_trees.specs.Built.{append}
use Rattle.prettyless_trees.specs.Lines.{line}
use Rattle.toml_formatter.proofs.parts.apart.Goals as goal

-- a document with a gap at its end, and another one after one more gap
after_more : (front more next all : Tree) (i : Item) (gap : List Item) → ShowsMore front (i ∷ []) more → ShowsBoth more gap next all
    → ShowsBoth front (i ∷ gap) next all
after_more front more next all i gap h k xs ys shown next_shown =
    subst (shows all) (append_assoc xs (i ∷ []) (gap ++ ys)) (k (xs ++ i ∷ []) ys (h xs shown) next_shown)

pub returns-in_ok-blanked-in-Beside-clause-items : goal.returns-in_ok-blanked-in-Beside-clause-items
returns-in_ok-blanked-in-Beside-clause-items g c =
    let tree = g.D.Doc.DocPtr.tree in
    rw c.in-Beside.is
    (IfOk-weaker c.joined-in-Beside.result _ _
    (λ p f. after_more (tree c.args.front) (tree c.in_ok-blanked-in-Beside.field-0) (tree c.args.next) (tree p) spaced []
    c.in_ok-blanked-in-Beside.ensures.items f)
    c.joined-in-Beside.ensures.items)

pub returns-in_ok-edged-in-Edge-clause-items : goal.returns-in_ok-edged-in-Edge-clause-items
returns-in_ok-edged-in-Edge-clause-items g c =
    let tree = g.D.Doc.DocPtr.tree in
    rw c.in-Edge.is
    (IfOk-weaker c.joined-in-Edge.result _ _
    (λ p f. after_more (tree c.args.front) (tree c.in_ok-edged-in-Edge.field-0) (tree c.args.next) (tree p) loose []
    c.in_ok-edged-in-Edge.ensures.items f)
    c.joined-in-Edge.ensures.items)

pub returns-in_ok-softened-in-Fill-clause-items : goal.returns-in_ok-softened-in-Fill-clause-items
returns-in_ok-softened-in-Fill-clause-items g c =
    let tree = g.D.Doc.DocPtr.tree in
    rw c.in-Fill.is
    (IfOk-weaker c.joined-in-Fill.result _ _
    (λ p f. after_more (tree c.args.front) (tree c.in_ok-softened-in-Fill.field-0) (tree c.args.next) (tree p) apart []
    c.in_ok-softened-in-Fill.ensures.items f)
    c.joined-in-Fill.ensures.items)

pub returns-in_ok-edged-in-BlankLine-clause-items : goal.returns-in_ok-edged-in-BlankLine-clause-items
returns-in_ok-edged-in-BlankLine-clause-items g c =
    let tree = g.D.Doc.DocPtr.tree in
    rw c.in-BlankLine.is
    (IfOk-weaker c.lined-in-BlankLine.result _ _
    (λ p f. after_more (tree c.args.front) (tree c.in_ok-edged-in-BlankLine.field-0) (tree c.args.next) (tree p) loose (apart ∷ [])
    c.in_ok-edged-in-BlankLine.ensures.items f)
    c.lined-in-BlankLine.ensures.items)

pub returns-in_ok-ended-in-BlankBreak-clause-items : goal.returns-in_ok-ended-in-BlankBreak-clause-items
returns-in_ok-ended-in-BlankBreak-clause-items g c =
    let tree = g.D.Doc.DocPtr.tree in
    rw c.in-BlankBreak.is
    (IfOk-weaker c.stacked-in-BlankBreak.result _ _
    (λ p f. after_more (tree c.args.front) (tree c.in_ok-ended-in-BlankBreak.field-0) (tree c.args.next) (tree p) ended (ended ∷ [])
    c.in_ok-ended-in-BlankBreak.ensures.items f)
    c.stacked-in-BlankBreak.ensures.items)

pub returns-in_ok-blanked-in-Beside-clause-ok : goal.returns-in_ok-blanked-in-Beside-clause-ok
returns-in_ok-blanked-in-Beside-clause-ok g c =
    let tree = g.D.Doc.DocPtr.tree in
    rw c.in-Beside.is
    (IfOk-weaker c.joined-in-Beside.result _ _ (λ p e. e ∙ ap (λ (x : Tree). append x (tree c.args.next)) c.in_ok-blanked-in-Beside.ensures.ok)
    c.joined-in-Beside.ensures.ok)

pub returns-in_ok-edged-in-Edge-clause-ok : goal.returns-in_ok-edged-in-Edge-clause-ok
returns-in_ok-edged-in-Edge-clause-ok g c =
    let tree = g.D.Doc.DocPtr.tree in
    rw c.in-Edge.is
    (IfOk-weaker c.joined-in-Edge.result _ _ (λ p e. e ∙ ap (λ (x : Tree). append x (tree c.args.next)) c.in_ok-edged-in-Edge.ensures.ok)
    c.joined-in-Edge.ensures.ok)

pub returns-in_ok-softened-in-Fill-clause-ok : goal.returns-in_ok-softened-in-Fill-clause-ok
returns-in_ok-softened-in-Fill-clause-ok g c =
    let tree = g.D.Doc.DocPtr.tree in
    rw c.in-Fill.is
    (IfOk-weaker c.joined-in-Fill.result _ _ (λ p e. e ∙ ap (λ (x : Tree). append x (tree c.args.next)) c.in_ok-softened-in-Fill.ensures.ok)
    c.joined-in-Fill.ensures.ok)

pub returns-in_ok-edged-in-BlankLine-clause-ok : goal.returns-in_ok-edged-in-BlankLine-clause-ok
returns-in_ok-edged-in-BlankLine-clause-ok g c =
    let tree = g.D.Doc.DocPtr.tree in
    rw c.in-BlankLine.is
    (IfOk-weaker c.lined-in-BlankLine.result _ _
    (λ p e. e ∙ ap (λ (x : Tree). append (append x line) (tree c.args.next)) c.in_ok-edged-in-BlankLine.ensures.ok)
    c.lined-in-BlankLine.ensures.ok)

pub returns-in_ok-ended-in-BlankBreak-clause-ok : goal.returns-in_ok-ended-in-BlankBreak-clause-ok
returns-in_ok-ended-in-BlankBreak-clause-ok g c =
    let tree = g.D.Doc.DocPtr.tree in
    rw c.in-BlankBreak.is
    (IfOk-weaker c.stacked-in-BlankBreak.result _ _
    (λ p e. e ∙ ap (λ (x : Tree). append (append x HardLine) (tree c.args.next)) c.in_ok-ended-in-BlankBreak.ensures.ok)
    c.stacked-in-BlankBreak.ensures.ok)
