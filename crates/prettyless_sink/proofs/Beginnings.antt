-- What was appended so far is a beginning of the text, step by step.
use Rattle.std.proofs.Common.{◌≡◌, ℕ, List, [], ◌++◌, ap, sym, ◌∙◌, subst, append_assoc, append-nil, arith, take, drop}
use Rattle.std.proofs.Common.{take-append-drop}
use Rattle.std.proofs.Common.{length, ◌-◌, Option, Result, Ok, Err, OnErr}
use Rattle.std.proofs.lemmas.List.{take_all, take_rest}
use Rattle.prettyless_sink.specs.Sink.{Accepts, AppendsBeginning, AppendsCount, Refuses, rise}

-- what holds anyway holds of an error
pub on_err : {T E P : Type 0} (r : Result T E) → P → OnErr r P
on_err (Ok x) h = tt
on_err (Err e) h = h

-- a beginning of a text is a beginning of what starts with it
pub beginning_of_more : (old new text more : List ℕ) → AppendsBeginning old new text → AppendsBeginning old new (text ++ more)
beginning_of_more old new text more p = (p.0, p.1 ++ more, ap (λ (x : List ℕ). x ++ more) p.2 ∙ append_assoc p.0 p.1 more, p.3)

-- after a whole text, a beginning of the next one is a beginning of both
pub beginning_after : (old mid new text next : List ℕ) → mid ≡ old ++ text → AppendsBeginning mid new next
    → AppendsBeginning old new (text ++ next)
beginning_after old mid new text next e p = (
  text ++ p.0,
  p.1,
  ap (λ (x : List ℕ). text ++ x) p.2 ∙ sym (append_assoc text p.0 p.1),
  p.3 ∙ ap (λ (x : List ℕ). x ++ p.0) e ∙ append_assoc old text p.0,
)

-- a beginning of the rest, after what was done, is a beginning of the text
pub beginning_of_rest : (old mid new text done rest : List ℕ) → text ≡ done ++ rest → mid ≡ old ++ done → AppendsBeginning mid new rest
    → AppendsBeginning old new text
beginning_of_rest old mid new text done rest split before p =
    subst (AppendsBeginning old new) (sym split) (beginning_after old mid new done rest before p)

-- what was appended in two pieces was appended as one
pub appended_on : (old mid new done more : List ℕ) → mid ≡ old ++ done → new ≡ mid ++ more → new ≡ old ++ (done ++ more)
appended_on old mid new done more before after = after ∙ ap (λ (x : List ℕ). x ++ more) before ∙ append_assoc old done more

-- a text was accepted, and then another
pub accepted_both : (old mid new : Option (List ℕ)) (text next : List ℕ) (n m k : ℕ) → Accepts old mid text n m → Accepts mid new next m k
    → Accepts old new (text ++ next) n k
accepted_both old mid new text next n m k first second = λ is_known.
    let before = first is_known in
    let after = second before.0 in
    (after.0, (appended_on _ _ _ text next before.1.0 after.1.0, after.1.1 ∙ before.1.1))

-- a text was accepted, and then another was refused
pub refused_after : (old mid new : Option (List ℕ)) (text next : List ℕ) (n m k : ℕ) → Accepts old mid text n m → Refuses mid new next m k
    → Refuses old new (text ++ next) n k
refused_after old mid new text next n m k first second = λ is_known.
    let before = first is_known in
    let after = second before.0 in
    (after.0, (beginning_after _ _ _ text next before.1.0 after.1.0, after.1.1 ∙ ap rise before.1.1))

-- a text that was appended was appended as far as its length
pub whole_count : (old new text : List ℕ) → new ≡ old ++ text → AppendsCount old new text (length text)
whole_count old new text e = ((λ within. rw (take_all (length text) text (omega arith)) e), (text, [], sym (append-nil text), e))

-- so many bytes of the rest are done too
pub split_on : (text done rest : List ℕ) (n : ℕ) → text ≡ done ++ rest → text ≡ (done ++ take n rest) ++ drop n rest
split_on text done rest n split = split ∙ ap (λ (x : List ℕ). done ++ x) (sym (take-append-drop n rest))
    ∙ sym (append_assoc done (take n rest) (drop n rest))

-- the same, where the rest is a slice from there on
pub split_on_slice : (text done rest : List ℕ) (n : ℕ) → text ≡ done ++ rest
    → text ≡ (done ++ take n rest) ++ take (length rest - n) (drop n rest)
split_on_slice text done rest n split = split_on text done rest n split ∙ ap (λ (x : List ℕ). (done ++ take n rest) ++ x)
    (sym (take_rest rest n))
