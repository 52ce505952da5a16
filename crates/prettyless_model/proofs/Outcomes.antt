-- Outcomes: bytes before them, one after another, one of two, and those of a text, of a line end and of a plain break.
use Rattle.std.proofs.Common.{◌≡◌, ℕ, List, [], ◌∷◌, ◌++◌, nat_le, refl, ap, sym, append_assoc, append-nil, Bool, true, false, ◌&&◌}
use Rattle.std.proofs.Common.{if◌then◌else◌}
use Rattle.prettyless_model.specs.declared.options.RenderOptions.{RenderOptions}
use Rattle.prettyless_model.specs.declared.options.IndentationPolicy.{IndentationPolicy}
use Rattle.prettyless_model.specs.declared.options.IndentationPolicy.TheVariants.{Eager, Deferred}
use Rattle.prettyless_model.specs.declared.column.Column.{Column}
use Rattle.prettyless_model.specs.Options.{ending}
use Rattle.prettyless_model.specs.Spaces.{spaces}
use Rattle.prettyless_model.specs.Tree.{Tree}
use Rattle.prettyless_model.specs.Column.{commit, deferred, gap, indented, padding_fits}
use Rattle.prettyless_model.specs.Layout.{State, Outcome, Done, Failed, Entry, after_bytes, and_then, some_pending, accept, lay_text}
use Rattle.prettyless_model.specs.Layout.{lay_ending, plain_break, is_suppressed, next_indent}

pub after-nil : (o : Outcome) → after_bytes [] o ≡ o
after-nil (Done b st) = refl
after-nil (Failed b) = refl

pub after-after : (a b : List ℕ) (o : Outcome) → after_bytes a (after_bytes b o) ≡ after_bytes (a ++ b) o
after-after a b (Done c st) = ap (λ (x : List ℕ). Done x st) (sym (append_assoc a b c))
after-after a b (Failed c) = ap Failed (sym (append_assoc a b c))

pub then-after : (b : List ℕ) (o : Outcome) (k : State → Outcome) → and_then (after_bytes b o) k ≡ after_bytes b (and_then o k)
then-after b (Done c st) k = sym (after-after b c (k st))
then-after b (Failed c) k = refl

pub then-then : (o : Outcome) (f g : State → Outcome) → and_then (and_then o f) g ≡ and_then o (λ st. and_then (f st) g)
then-then (Done b st) f g = then-after b (f st) g
then-then (Failed b) f g = refl

pub then-done : (o : Outcome) → and_then o (λ u. Done [] u) ≡ o
then-done (Done b st) = ap (λ (x : List ℕ). Done x st) (append-nil b)
then-done (Failed b) = refl

-- one of two outcomes, by one test
pub same-either : (t : Bool) (x y z w : Outcome) → x ≡ z → y ≡ w → (if t then x else y) ≡ (if t then z else w)
same-either true x y z w e f = e
same-either false x y z w e f = f

-- what holds of both outcomes holds of the one that is taken
pub holds-either : (P : Outcome → Type 0) (t : Bool) (x y : Outcome) → P x → P y → P (if t then x else y)
holds-either P true x y h g = h
holds-either P false x y h g = g

-- and of the one that is accepted, where it does not depend on the flag
pub holds-accept : (P : Outcome → Type 0)
    → ((b : List ℕ) (st : State) (was : Bool) → P (Done b st) → P (Done b (record st { within = was })))
    → (o : RenderOptions) (was : Bool) (x other : Outcome) → P x → P other → P (accept o was x other)
holds-accept P k o was (Done b st) other h g =
    holds-either P (st.within && padding_fits o.width (some_pending st.pending) st.column) (Done b (record st { within = was })) other
    (k b st was h) g
holds-accept P k o was (Failed b) other h g = g

-- it holds of whatever is written while what is pending stays, at any column and with either flag
abbrev pub OfAllWritten : (Outcome → Type 0) → State → Type 0
OfAllWritten P st = (b : List ℕ) (c : Column) (within : Bool) → P (Done b (record st { column = c; within = within }))

-- then it holds of a text
pub holds-text : (P : Outcome → Type 0) (o : RenderOptions) (w : ℕ) (s : List ℕ) (st : State) → OfAllWritten P st → P (lay_text o w s st)
holds-text P o w [] st h = h [] st.column st.within
holds-text P o w (b ∷ bs) st h =
    h (spaces (gap st.column) ++ (b ∷ bs)) (commit w st.column) (st.within && nat_le (commit w st.column).position o.width)

-- of the end of a line
pub holds-ending : (P : Outcome → Type 0) (o : RenderOptions) (p : IndentationPolicy) (k : ℕ) (st : State) → OfAllWritten P st
    → P (lay_ending o p k st)
holds-ending P o Eager k st h = h (ending o.line_ending ++ spaces k) (indented k) st.within
holds-ending P o Deferred k st h = h (ending o.line_ending) (deferred k) st.within

-- and of a break with nothing pending
pub holds-plain : (P : Outcome → Type 0) (o : RenderOptions) (d : Tree) (i : ℕ) (rest : List Entry) (st : State) → OfAllWritten P st
    → P (plain_break o d i rest st)
holds-plain P o d i rest st h =
    holds-either P (is_suppressed d st.column) (Done [] st) (lay_ending o o.indentation_policy (next_indent i rest) st)
    (h [] st.column st.within) (holds-ending P o o.indentation_policy (next_indent i rest) st h)
