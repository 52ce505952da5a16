-- Documents that are their texts where they are laid flat.
use Rattle.std.specs.Prelude.{ℕ, ◌+◌, max, length, List, [], ◌∷◌}
use Rattle.prettyless_model.specs.Tree.{Tree, Nil, Text, Append, Nest, BreakOrFlat, Group}
use Rattle.prettyless_model.specs.Look.{by_mode}
use Rattle.prettyless_model.specs.declared.mode.Mode.{Mode}
use Rattle.prettyless_model.specs.declared.mode.Mode.TheVariants.{Break, Flat}
use Rattle.prettyless_probe.specs.Stack.{Task}

-- laid flat, the document lays its texts one after another, and no more
abbrev pub IsTexts : Tree → Type 0
IsTexts Nil = Unit {0}
IsTexts (Text s) = Unit {0}
IsTexts (Append l r) = IsTexts l × IsTexts r
IsTexts (Nest i d) = IsTexts d
IsTexts (BreakOrFlat b f) = IsTexts f
IsTexts (Group d) = IsTexts d
IsTexts _ = ⊥

-- how many nodes wait at most, once a second document has to wait for the first one before it, where n wait already
abbrev pub texts_waiting : Tree → ℕ → ℕ
texts_waiting (Append l r) n = max (n + 1) (max (texts_waiting l (n + 1)) (texts_waiting r n))
texts_waiting (Nest i d) n = texts_waiting d n
texts_waiting (BreakOrFlat b f) n = texts_waiting f n
texts_waiting (Group d) n = texts_waiting d n
texts_waiting _ n = 0

-- the same of tasks one after another, up to the first one in Break
abbrev pub tasks_waiting : List Task → ℕ
tasks_waiting [] = 0
tasks_waiting (t ∷ ts) = by_mode t.mode 0 (max (texts_waiting t.tree (length ts)) (tasks_waiting ts))

-- x in Break, y in Flat
abbrev pub ByMode : Mode → Type 0 → Type 0 → Type 0
ByMode Break x y = x
ByMode Flat x y = y

-- the document is its texts, if those of the tasks are theirs that come before the first one in Break
abbrev pub IsTextsIf : Tree → List Task → Type 0
IsTextsIf d [] = IsTexts d
IsTextsIf d (t ∷ ts) = ByMode t.mode (IsTexts d) (IsTexts t.tree → IsTextsIf d ts)
