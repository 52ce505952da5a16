-- Documents one after another: an appended document is laid as its sequence, however it is grouped.
use Rattle.std.proofs.Common.{◌≡◌, ℕ, List, [], ◌∷◌, ◌++◌, append_assoc, append-nil, refl, ap, sym, ◌∙◌, Bool}
use Rattle.prettyless_model.specs.declared.options.RenderOptions.{RenderOptions}
use Rattle.prettyless_model.specs.Tree.{Tree, Nil, Append}
use Rattle.prettyless_model.specs.Look.{look}
use Rattle.prettyless_model.specs.Layout.{State, Entry, Breaks, and_then, entries, entry, lay, lay_each, next_indent, rest_fits}
use Rattle.prettyless_model.specs.declared.column.Column.{Column}
use Rattle.prettyless_model.specs.declared.mode.Mode.{Mode}
use Rattle.prettyless_model.specs.declared.mode.Mode.TheVariants.{Break}
use Rattle.prettyless_model.proofs.Looks.{answer-each, answer-then}
use Rattle.prettyless_model.proofs.Outcomes.{after-nil, then-done, then-then}
use Rattle.prettyless_laws.specs.Parts.{DocumentsAreLaidInTurn, FollowAlike, ReadsAlike, sequence_of}
use Rattle.prettyless_laws.proofs.Following.{lay_alike, then-same}

entries-append : (i : ℕ) (xs ys : List Tree) (rest : List Entry) → entries i (xs ++ ys) ++ rest ≡ entries i xs ++ (entries i ys ++ rest)
entries-append i [] ys rest = refl
entries-append i (x ∷ xs) ys rest = ap (λ (es : List Entry). entry i x ∷ es) (entries-append i xs ys rest)

each-append : (o : RenderOptions) (brk : Breaks) (xs ys : List Tree) (i : ℕ) (m : Mode) (rest : List Entry) (st : State)
    → lay_each o brk (xs ++ ys) i m rest st ≡ and_then (lay_each o brk xs i m (entries i ys ++ rest) st) (λ u. lay_each o brk ys i m rest u)
unfolding lay_each
each-append o brk [] ys i m rest st = sym (after-nil (lay_each o brk ys i m rest st))
each-append o brk (x ∷ xs) ys i m rest st =
    then-same _ _ _ _
    (ap (λ (es : List Entry). lay o brk x i m es st) (entries-append i xs ys rest))
    (λ u. each-append o brk xs ys i m rest u)
    ∙ sym (then-then (lay o brk x i m (entries i xs ++ (entries i ys ++ rest)) st) (λ u. lay_each o brk xs i m (entries i ys ++ rest) u)
    (λ u. lay_each o brk ys i m rest u))

-- the first of a sequence has its indent
first_indent : (i j : ℕ) (d : Tree) (later : List Tree) (rest : List Entry) → next_indent j (entries i (sequence_of d ++ later) ++ rest) ≡ i
first_indent i j Nil later rest = refl
first_indent i j (Append l r) later rest =
    ap (λ (ds : List Tree). next_indent j (entries i ds ++ rest)) (append_assoc (sequence_of l) (sequence_of r) later)
    ∙ first_indent i j l (sequence_of r ++ later) rest
first_indent i j _ later rest = refl

-- a probe finds the same in a sequence
sequence_fits : (w i : ℕ) (d : Tree) (rest : List Entry) (c : Column) (p : Bool) → rest_fits w (entry i d ∷ rest) c p ≡ rest_fits w
    (entries i (sequence_of d) ++ rest) c p
sequence_fits w i Nil rest c p = refl
sequence_fits w i (Append l r) rest c p =
    answer-then (look w l i Break c p) (λ e q. look w r i Break e q) (λ e q. rest_fits w rest e q)
    ∙ answer-each (look w l i Break c p) (λ e q. rest_fits w (entry i r ∷ rest) e q)
    (λ e q. rest_fits w (entries i (sequence_of r) ++ rest) e q)
    (λ e q. sequence_fits w i r rest e q)
    ∙ sequence_fits w i l (entries i (sequence_of r) ++ rest) c p
    ∙ ap (λ (es : List Entry). rest_fits w es c p) (sym (entries-append i (sequence_of l) (sequence_of r) rest))
sequence_fits w i _ rest c p = refl

sequence_alike : (i : ℕ) (d : Tree) (rest : List Entry) → FollowAlike (entry i d ∷ rest) (entries i (sequence_of d) ++ rest)
sequence_alike i d rest = (
  λ j. sym (first_indent i j d [] rest) ∙ ap (λ (ds : List Tree). next_indent j (entries i ds ++ rest)) (append-nil (sequence_of d)),
  λ w c p. sequence_fits w i d rest c p,
)

-- a document that appends nothing is a sequence alone
alone : (o : RenderOptions) (brk : Breaks) (d : Tree) (i : ℕ) (m : Mode) (rest : List Entry) (st : State)
    → lay o brk d i m rest st ≡ lay_each o brk (d ∷ []) i m rest st
unfolding lay_each
alone o brk d i m rest st = sym (then-done (lay o brk d i m rest st))

both_in_turn : (o : RenderOptions) (brk : Breaks) (l r : Tree) (i : ℕ) (m : Mode) (rest : List Entry) (st : State) → ReadsAlike brk
    → ((s : List Entry) → lay o brk l i m s st ≡ lay_each o brk (sequence_of l) i m s st)
    → ((u : State) → lay o brk r i m rest u ≡ lay_each o brk (sequence_of r) i m rest u) → lay o brk (Append l r) i m rest st ≡ lay_each o
    brk (sequence_of l ++ sequence_of r) i m rest st
unfolding lay
both_in_turn o brk l r i m rest st k f g =
    let after = entries i (sequence_of r) ++ rest in
    then-same _ _ _ _
    (lay_alike o brk k l i m (entry i r ∷ rest) after st (sequence_alike i r rest) ∙ f after)
    g
    ∙ sym (each-append o brk (sequence_of l) (sequence_of r) i m rest st)

pub lay_in_turn : DocumentsAreLaidInTurn
lay_in_turn o brk Nil i m rest st k = alone o brk Nil i m rest st
lay_in_turn o brk (Append l r) i m rest st k =
    both_in_turn o brk l r i m rest st k (λ s. lay_in_turn o brk l i m s st k) (λ u. lay_in_turn o brk r i m rest u k)
lay_in_turn o brk d i m rest st k = alone o brk d i m rest st
