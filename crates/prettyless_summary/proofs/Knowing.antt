-- What a document shows before its first choice, and what is known of two documents one after the other.
use Rattle.std.proofs.Common.{◌≡◌, ℕ, ◌+◌, ◌<◌, ◌^◌, ◌&&◌, Bool, true, false, Option, Some, None, MatchOption, IfSome, refl, sym, ◌∙◌}
use Rattle.std.proofs.Common.{arith, if◌then◌else◌}
use Rattle.std.specs.Prelude.{⊤}
use Rattle.std.specs.Option.{unwrap_or}
use Rattle.prettyless_model.specs.Tree as t
use Rattle.prettyless_model.specs.Tree.{Tree, Append, size}
use Rattle.prettyless_model.specs.Indent.{indent_by}
use Rattle.prettyless_model.specs.Look.{Look, Answers, GoesOn, look, look_then}
use Rattle.prettyless_model.specs.declared.column.Column.{Column}
use Rattle.prettyless_model.specs.declared.mode.Mode.{Mode}
use Rattle.prettyless_model.specs.declared.mode.Mode.TheVariants.{Break, Flat}
use Rattle.prettyless_model.proofs.Looks.{look-same}
use Rattle.prettyless_summary.specs.Summary.{IsSmall, Summarizes, ThenReads, has_summary, look_by}
use Rattle.prettyless_summary.specs.Known.{AnswersFor, FoundIf, IsKnown, before_choice}
use Rattle.prettyless_summary.specs.declared.summary.Summary.{Summary}
use Rattle.prettyless_summary.specs.declared.known.Known.TheVariants.{Whole, Begins}

-- ---- Before a choice

-- the first look is the second one, where there is no choice; else it has the answer of the second one, or none
abbrev pub Leads : Bool → Look → Look → Type 0
Leads true x y = x ≡ y
Leads false (Answers b) y = y ≡ Answers b
Leads false (GoesOn c p) y = ⊤

leads_then : (b : Bool) (x : Look) (f g : Column → Bool → Look) → ((c : Column) (p : Bool) → Leads b (f c p) (g c p)) →
    Leads b (look_then x f) (look_then x g)
leads_then true (Answers b) f g h = refl
leads_then false (Answers b) f g h = refl
leads_then true (GoesOn c p) f g h = h c p
leads_then false (GoesOn c p) f g h = h c p

leads_alone : (x y : Look) (g : Column → Bool → Look) → Leads false x y → Leads false x (look_then y g)
leads_alone (Answers b) y g h = rw h refl
leads_alone (GoesOn c p) y g h = tt

leads_append : (b : Bool) (w i : ℕ) (m : Mode) (l r : Tree) (c : Column) (p : Bool) →
    Leads b (look w (before_choice l m) i m c p) (look w l i m c p)
    → ((e : Column) (q : Bool) → Leads (has_summary r m) (look w (before_choice r m) i m e q) (look w r i m e q)) →
    Leads (b && has_summary r m) (look w (if b then Append l (before_choice r m) else before_choice l m) i m c p)
    (look w (Append l r) i m c p)
leads_append true w i m l r c p h k =
    leads_then (has_summary r m) (look w l i m c p) (λ e q. look w (before_choice r m) i m e q) (λ e q. look w r i m e q) k
leads_append false w i m l r c p h k = leads_alone (look w (before_choice l m) i m c p) (look w l i m c p) (λ e q. look w r i m e q) h

-- what comes before a choice leads to what the document shows
pub leads : (w i : ℕ) (m : Mode) (d : Tree) (c : Column) (p : Bool) →
    Leads (has_summary d m) (look w (before_choice d m) i m c p) (look w d i m c p)
leads w i m (Append l r) c p =
    leads_append (has_summary l m) w i m l r c p (leads w i m l c p) (λ e q. leads w i m r e q)
leads w i m (t.Indented how d) c p = leads w (indent_by how i c) m d c p
leads w i m (t.Flatten d) c p = leads w i Flat d c p
leads w i Break (t.BreakOrFlat b f) c p = leads w i Break b c p
leads w i Flat (t.BreakOrFlat b f) c p = leads w i Flat f c p
leads w i m (t.Group d) c p = leads w i m d c p
leads w i Break (t.Union l r) c p = leads w i Break r c p
leads w i Flat (t.Union l r) c p = leads w i Flat l c p
leads w i Break (t.PartialUnion l r) c p = leads w i Break r c p
leads w i Flat (t.PartialUnion l r) c p = leads w i Flat l c p
leads w i m (t.Chosen test y n) c p = tt
leads w i m (t.LineSuffix d) c p = refl
leads w i m t.Nil c p = refl
leads w i m t.Fail c p = refl
leads w i m (t.Text s) c p = refl
leads w i m (t.TextWithLen n s) c p = refl
leads w i m (t.MultilineText s) c p = refl
leads w i m t.WeakSpace c p = refl
leads w i m t.HardLine c p = refl
leads w i m t.WeakLine c p = refl
leads w i m t.ExpandParent c p = refl

answer_leads : (b : Bool) (x y : Look) (a : Bool) → Leads b x y → x ≡ Answers a → y ≡ Answers a
answer_leads true x y a h e = sym h ∙ e
answer_leads false (Answers b) y a h e = h ∙ e
answer_leads false (GoesOn c p) y a h e = absurd (cc)

-- where what comes before a choice has an answer, the document has it
pub before_answers : (w i : ℕ) (m : Mode) (d : Tree) (c : Column) (p a : Bool) → look w (before_choice d m) i m c p ≡ Answers a →
    look w d i m c p ≡ Answers a
before_answers w i m d c p a e =
    answer_leads (has_summary d m) (look w (before_choice d m) i m c p) (look w d i m c p) a (leads w i m d c p) e

-- so its summary answers for the document
pub answers_for : (s : Summary) (d : Tree) (m : Mode) → Summarizes s (before_choice d m) m → AnswersFor s d m
answers_for s d m h i w c p a e = before_answers w i m d c p a (sym (h i w c p) ∙ e)

-- ---- Two documents

then_answers : (x y : Look) (f g : Column → Bool → Look) (a : Bool) → x ≡ y
    → ((c : Column) (p : Bool) → f c p ≡ Answers a → g c p ≡ Answers a)
    → look_then x f ≡ Answers a → look_then y g ≡ Answers a
then_answers (Answers b) y f g a e h k = rw (sym e) k
then_answers (GoesOn c p) y f g a e h k = rw (sym e) (h c p k)

-- a choice stands in the first one

begins_alone : (b x : Bool) (s : Summary) (d e : Tree) (m : Mode) → has_summary d m ≡ b → FoundIf b (Begins s) d m →
    FoundIf (b && x) (Begins s) (Append d e) m
begins_alone true x s d e m h k = absurd k
begins_alone false x s d e m h k = (rw h k.0, omega (arith, k.1))

pub append_begins : (s : Summary) (d e : Tree) (m : Mode) → IsKnown (Begins s) d m → IsKnown (Begins s) (Append d e) m
append_begins s d e m h = record {
  holds = λ i w c p a k. rw (h.holds i w c p a k) refl;
  found = λ few. begins_alone (has_summary d m) (has_summary e m) s d e m refl (h.found (omega (arith, few)));
}

-- none stands in the first one, and one does in the second one

then_begins : (a b : Bool) (s u r : Summary) (d e : Tree) (m : Mode) → has_summary d m ≡ a → Summarizes s d m → ThenReads s u r
    → FoundIf a (Whole s) d m → FoundIf b (Begins u) e m
    → (IsSmall (size d) s → IsSmall (size e) u → IsSmall (size d + size e) r) → FoundIf (a && b) (Begins r) (Append d e) m
then_begins true false s u r d e m h known reads k l small = (
  rw h (λ i w c p. reads w c p ∙ look-same (look_by w s c p) (look w d i m c p) (look_by w u) (λ f q. look w (before_choice e m) i m f q)
      (known i w c p) (λ f q. l.0 i w f q)),
  omega (arith, small k l.1),
)
then_begins false b s u r d e m h known reads k l small = absurd k
then_begins true true s u r d e m h known reads k l small = absurd l

whole_small : (b : Bool) (s : Summary) (d : Tree) (m : Mode) → FoundIf b (Whole s) d m → IsSmall (size d) s
whole_small true s d m h = h
whole_small false s d m h = absurd h

begins_small : (b : Bool) (s : Summary) (d : Tree) (m : Mode) → FoundIf b (Begins s) d m → IsSmall (size d) s
begins_small true s d m h = absurd h
begins_small false s d m h = h.1

-- where weak spaces are too many to count
append_none : (s : Summary) (d e : Tree) (m : Mode) → Summarizes s d m → (size (Append d e) < 2 ^ 32 → ⊥) →
    IsKnown (Begins s) (Append d e) m
append_none s d e m h few = record {
  holds = λ i w c p a k. rw (sym (h i w c p) ∙ k) refl;
  found = λ l. absurd (few l);
}

-- what is known of one that is wholly known and one that begins so
pub append_both : (s u : Summary) (o : Option Summary) (d e : Tree) (m : Mode) → IsKnown (Whole s) d m → IsKnown (Begins u) e m
    → IfSome o (λ r. ThenReads s u r)
    → ((n k : ℕ) → n + k < 2 ^ 32 → IsSmall n s → IsSmall k u → MatchOption o ⊥ (IsSmall (n + k)))
    → IsKnown (Begins (unwrap_or o s)) (Append d e) m
append_both s u (Some r) d e m h k reads small = record {
  holds = λ i w c p a l. then_answers (look_by w s c p) (look w d i m c p) (look_by w u) (λ f q. look w e i m f q) a (h.holds i w c p)
      (λ f q. k.holds i w f q a) (sym (reads w c p) ∙ l);
  found = λ few. then_begins (has_summary d m) (has_summary e m) s u r d e m refl h.holds reads (h.found (omega (arith, few)))
      (k.found (omega (arith, few))) (small (size d) (size e) (omega (arith, few)));
}
append_both s u None d e m h k reads small = append_none s d e m h.holds (λ few.
    small (size d) (size e) (omega (arith, few)) (whole_small (has_summary d m) s d m (h.found (omega (arith, few))))
    (begins_small (has_summary e m) u e m (k.found (omega (arith, few)))))
