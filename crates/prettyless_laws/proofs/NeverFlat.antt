-- Documents that no flat line holds: a probe in Flat answers no, and their groups are broken.
use Rattle.std.proofs.Common.{◌≡◌, ℕ, List, [], ◌∷◌, length, refl, ◌∙◌, Bool, true, false, not, ◌&&◌, if◌then◌else◌, nat_le, inl, inr}
use Rattle.prettyless_model.specs.Tree.{Tree, Fail, Text, TextWithLen, MultilineText, WeakLine, HardLine, Append, Indented, ExpandParent}
use Rattle.prettyless_model.specs.Tree.{Flatten, BreakOrFlat, Group, Union, PartialUnion, Chosen}
use Rattle.prettyless_model.specs.Column.{commit, prospective}
use Rattle.prettyless_model.specs.Indent.{indent_by}
use Rattle.prettyless_model.specs.Choice.{choice_holds}
use Rattle.prettyless_model.specs.Look.{Look, Answers, GoesOn, answer_of, look, look_text, look_then}
use Rattle.prettyless_model.specs.Layout.{rest_fits, some_pending}
use Rattle.prettyless_model.specs.declared.column.Column.{Column}
use Rattle.prettyless_model.specs.declared.mode.Mode.TheVariants.{Flat}
use Rattle.prettyless_model.proofs.Looks.{answer-then}
use Rattle.prettyless_laws.specs.Parts.{IsNeverFlat, NeverFlatGroupsAreBroken}
use Rattle.prettyless_laws.proofs.Inline.{group_is_broken}

-- where what comes next is no, so is the whole
abbrev AnswersNo : Look → (Column → Bool → Bool) → Type 0
AnswersNo x next = answer_of x next ≡ false

-- one of two looks, by a test
either-no : (next : Column → Bool → Bool) (t : Bool) (x y : Look) → AnswersNo x next → AnswersNo y next
    → AnswersNo (if t then x else y) next
either-no next true x y h k = h
either-no next false x y h k = k

then-no : (x : Look) (f : Column → Bool → Look) (next : Column → Bool → Bool) → AnswersNo x (λ c p. false)
    → ((c : Column) (p : Bool) → AnswersNo (f c p) next) → AnswersNo (look_then x f) next
then-no (Answers b) f next h k = h
then-no (GoesOn c p) f next h k = k c p

text_no : (w n : ℕ) (s : List ℕ) (c : Column) (p : Bool) → AnswersNo (look_text w n s c p) (λ e q. false)
text_no w n [] c p = refl
text_no w n (b ∷ bs) c p = either-no (λ e q. false) (nat_le (commit n c).position w) (GoesOn (commit n c) p) (Answers false) refl refl

-- a flat line gives no answer but no
flat_no : (w : ℕ) (d : Tree) (i : ℕ) (c : Column) (p : Bool) → AnswersNo (look w d i Flat c p) (λ e q. false)
flat_no w (Text s) i c p = text_no w (length s) s c p
flat_no w (TextWithLen n s) i c p = text_no w n s c p
flat_no w WeakLine i c p = either-no (λ e q. false) (c.fresh && not p) (GoesOn c p) (Answers false) refl refl
flat_no w (Append l r) i c p =
    then-no (look w l i Flat c p) (λ e q. look w r i Flat e q) (λ e q. false) (flat_no w l i c p) (λ e q. flat_no w r i e q)
flat_no w (Indented how d) i c p = flat_no w d (indent_by how i c) c p
flat_no w (Flatten d) i c p = flat_no w d i c p
flat_no w (BreakOrFlat b f) i c p = flat_no w f i c p
flat_no w (Group d) i c p = flat_no w d i c p
flat_no w (Union l r) i c p = flat_no w l i c p
flat_no w (PartialUnion l r) i c p = flat_no w l i c p
flat_no w (Chosen test y n) i c p =
    either-no (λ e q. false) (choice_holds test (prospective c) i) (look w y i Flat c p) (look w n i Flat c p) (flat_no w y i c p)
    (flat_no w n i c p)
flat_no w _ i c p = refl

-- at such a document it is no, whatever would come next
never_flat : (w : ℕ) (d : Tree) (i : ℕ) (c : Column) (p : Bool) (next : Column → Bool → Bool) → IsNeverFlat d
    → AnswersNo (look w d i Flat c p) next
never_flat w Fail i c p next h = refl
never_flat w (MultilineText s) i c p next h = refl
never_flat w HardLine i c p next h = refl
never_flat w ExpandParent i c p next h = refl
never_flat w (Append l r) i c p next (inl h) =
    answer-then (look w l i Flat c p) (λ e q. look w r i Flat e q) next
    ∙ never_flat w l i c p (λ e q. answer_of (look w r i Flat e q) next) h
never_flat w (Append l r) i c p next (inr h) =
    then-no (look w l i Flat c p) (λ e q. look w r i Flat e q) next (flat_no w l i c p) (λ e q. never_flat w r i e q next h)
never_flat w (Indented how d) i c p next h = never_flat w d (indent_by how i c) c p next h
never_flat w (Flatten d) i c p next h = never_flat w d i c p next h
never_flat w (BreakOrFlat b f) i c p next h = never_flat w f i c p next h
never_flat w (Group d) i c p next h = never_flat w d i c p next h
never_flat w (Union l r) i c p next h = never_flat w l i c p next h
never_flat w (PartialUnion l r) i c p next h = never_flat w l i c p next h
never_flat w (Chosen test y n) i c p next h =
    either-no next (choice_holds test (prospective c) i) (look w y i Flat c p) (look w n i Flat c p) (never_flat w y i c p next h.0)
    (never_flat w n i c p next h.1)
never_flat w _ i c p next h = absurd h

pub never_flat_is_broken : NeverFlatGroupsAreBroken
never_flat_is_broken o brk d i rest st h =
    group_is_broken o brk d i rest st
    (never_flat o.width d i st.column (some_pending st.pending) (λ c p. rest_fits o.width rest c p) h)
