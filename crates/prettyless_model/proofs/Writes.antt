-- What a text, a payload and a break with nothing pending write: their ink, and no document becomes pending.
use Rattle.std.proofs.Common.{◌≡◌, ℕ, List, [], ◌∷◌, refl, ◌∙◌, Bool, true, false, if◌then◌else◌}
use Rattle.prettyless_model.specs.Options.{ending}
use Rattle.prettyless_model.specs.Spaces.{spaces}
use Rattle.prettyless_model.specs.declared.options.RenderOptions.{RenderOptions}
use Rattle.prettyless_model.specs.declared.options.IndentationPolicy.{IndentationPolicy}
use Rattle.prettyless_model.specs.declared.options.IndentationPolicy.TheVariants.{Eager, Deferred}
use Rattle.prettyless_model.specs.Tree.{Tree}
use Rattle.prettyless_model.specs.Column.{gap}
use Rattle.prettyless_model.specs.Layout.{State, Outcome, Done, Failed, Entry, lay_text, lay_payload, lay_ending, is_suppressed}
use Rattle.prettyless_model.specs.Layout.{plain_break, next_indent}
use Rattle.prettyless_model.specs.Spelling.{ink}
use Rattle.prettyless_model.specs.declared.metrics.Metrics.{Metrics}
use Rattle.prettyless_model.proofs.Ink.{ink-spaces, ink-ending, ink-after}
use Rattle.prettyless_model.proofs.Outcomes.{holds-either}

-- the ink of the bytes is this word, and these documents are pending after them
abbrev pub Writes : List ℕ → List Tree → Outcome → Type 0
Writes w ps (Done b st) = (ink b ≡ w) × (st.pending ≡ ps)
Writes w ps (Failed b) = Unit {0}

pub text_writes : (o : RenderOptions) (w : ℕ) (s : List ℕ) (st : State) → Writes (ink s) st.pending (lay_text o w s st)
text_writes o w [] st = (refl, refl)
text_writes o w (b ∷ bs) st = (ink-after (spaces (gap st.column)) (b ∷ bs) (ink-spaces (gap st.column)), refl)

ink-padding : (t : Bool) (n : ℕ) → ink (if t then spaces n else []) ≡ []
ink-padding true n = ink-spaces n
ink-padding false n = refl

pub payload_writes : (o : RenderOptions) (m : Metrics) (s : List ℕ) (st : State) → Writes (ink s) st.pending (lay_payload o m s st)
payload_writes o m s st =
    (ink-after (if m.first_nonempty then spaces (gap st.column) else []) s (ink-padding m.first_nonempty (gap st.column)), refl)

ending_writes : (o : RenderOptions) (p : IndentationPolicy) (k : ℕ) (st : State) → Writes [] st.pending (lay_ending o p k st)
ending_writes o Eager k st = (ink-after (ending o.line_ending) (spaces k) (ink-ending o.line_ending) ∙ ink-spaces k, refl)
ending_writes o Deferred k st = (ink-ending o.line_ending, refl)

pub plain_writes : (o : RenderOptions) (d : Tree) (i : ℕ) (rest : List Entry) (st : State)
    → Writes [] st.pending (plain_break o d i rest st)
plain_writes o d i rest st =
    holds-either (Writes [] st.pending) (is_suppressed d st.column) (Done [] st) (lay_ending o o.indentation_policy (next_indent i rest) st)
    (refl, refl) (ending_writes o o.indentation_policy (next_indent i rest) st)
