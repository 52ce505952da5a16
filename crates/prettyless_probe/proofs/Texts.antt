-- Documents that are their texts: what a visit shows of that.
use Rattle.std.proofs.Common.{List, [], ◌∷◌, Bool, false, ◌≡◌, ◌∙◌, IsTrue, refl, subst, sym}
use Rattle.std.proofs.lemmas.Bool.{false≢true}
use Rattle.prettyless_model.specs.Tree.{Tree}
use Rattle.prettyless_model.specs.Look.{by_mode}
use Rattle.prettyless_model.specs.declared.mode.Mode.{Mode}
use Rattle.prettyless_model.specs.declared.mode.Mode.TheVariants.{Break, Flat}
use Rattle.prettyless_probe.specs.Stack.{Task, task}
use Rattle.prettyless_probe.specs.Probing.{TextsAt}
use Rattle.prettyless_probe.specs.declared.command.Command.{Command}
use Rattle.prettyless_probe.specs.declared.visit.ProbeStep.{ProbeStep}
use Rattle.prettyless_probe.specs.declared.visit.ProbeStep.TheVariants.{Answer, Next, Silent}
use Rattle.prettyless_probe.specs.Texts.{IsTexts, IsTextsIf, ByMode}

until : (m : Mode) (x y : Type 0) → x → y → ByMode m x y
until Break x y a b = a
until Flat x y a b = b

-- a document that is its texts
pub texts_known : (d : Tree) (ts : List Task) → IsTexts d → IsTextsIf d ts
texts_known d [] h = h
texts_known d (t ∷ ts) h = until t.mode (IsTexts d) (IsTexts t.tree → IsTextsIf d ts) h (λ _. texts_known d ts h)

-- a node that is read
pub texts_read : (d : Tree) (m : Mode) (read : Tree) (ts : List Task) → IsTexts read → ByMode m (IsTexts d) (IsTexts read → IsTextsIf d ts)
    → IsTextsIf d ts
texts_read d Break read ts own h = texts_known d ts h
texts_read d Flat read ts own h = h own

-- a node that is met in Break: the document is its texts already
pub texts_broken : (d : Tree) (m : Mode) (read : Tree) (ts : List Task) → m ≡ Break → ByMode m (IsTexts d) (IsTexts read → IsTextsIf d ts)
    → IsTexts d
texts_broken d Break read ts e h = h
texts_broken d Flat read ts e h = absurd (cc)

-- a document that is its texts is so at each result
pub texts_at : {N : Type 0} (f : N → Tree) (d : Tree) (a : ProbeStep (Command N)) (ts : List Task) → IsTexts d → TextsAt f d a ts
texts_at {N} f d (Answer b) ts h = λ _. h
texts_at {N} f d (Next n) ts h = texts_known d (task f n ∷ ts) h
texts_at {N} f d Silent ts h = texts_known d ts h

-- all that was met flat is still texts, since the node is met in Break
pub texts_still : (r b : Bool) (m : Mode) → r ≡ by_mode m b false → IsTrue r → IsTrue b × (m ≡ Break)
texts_still r b Break e h = (subst (λ x. IsTrue x) e h, refl)
texts_still r b Flat e h = absurd (false≢true (sym e ∙ h))
