-- A layout on its way into a sink, piece by piece.
use Rattle.std.proofs.Common.{◌≡◌, sym, ◌∙◌, ap, subst, ℕ, ◌<◌, ◌==◌, false, List, [], ◌∷◌, ◌++◌, append_assoc, append-nil, length}
use Rattle.std.proofs.Common.{length-append, Option, Some, None, arith}
use Rattle.std.specs.Prelude.{IfSome, MatchOption}
use Rattle.std.proofs.lemmas.Bool.{true≢false}
use Rattle.json.specs.Word.{ends_word, head}
use Rattle.json_lexemes.specs.View.{text_of, IsNamed}
use Rattle.json_lexemes.specs.declared.lexeme.Lexeme.{Lexeme}
use Rattle.json_lexemes.specs.declared.lexeme.Lexeme.TheVariants.{OpenObject, CloseObject, OpenArray, CloseArray, Comma, Colon, String}
use Rattle.json_lexemes.specs.declared.lexeme.Lexeme.TheVariants.{Word}
use Rattle.prettyless_sink.specs.Sink.{Accepts, Refuses}
use Rattle.json_formatter.specs.Kept.{spelled_bytes}
use Rattle.json_formatter.specs.declared.spelling.Spelled.{Spelled}
use Rattle.prettyless_sink.proofs.Beginnings.{accepted_both, beginning_of_more, refused_after}

-- the same text
pub accepts_same : (old new : Option (List ℕ)) (x y : List ℕ) (n m : ℕ) → x ≡ y → Accepts old new x n m → Accepts old new y n m
accepts_same old new x y n m e wrote = subst (λ (l : List ℕ). Accepts old new l n m) e wrote

pub refuses_same : (old new : Option (List ℕ)) (x y : List ℕ) (n m : ℕ) → x ≡ y → Refuses old new x n m → Refuses old new y n m
refuses_same old new x y n m e failed = subst (λ (l : List ℕ). Refuses old new l n m) e failed

-- the sink fails before another text
pub refuses_more : (old new : Option (List ℕ)) (x y : List ℕ) (n m : ℕ) → Refuses old new x n m → Refuses old new (x ++ y) n m
refuses_more old new x y n m failed = λ is_known.
    let f = failed is_known in
    (f.0, (beginning_of_more _ _ x y f.1.0, f.1.1))

-- ---- a lexeme

-- the line ends of a gap, its tabs, its spaces, and a text
pub gap_text : (gap ends tabbed spaced text : List ℕ) → gap ≡ ends ++ (tabbed ++ spaced)
    → (ends ++ tabbed) ++ (spaced ++ text) ≡ gap ++ text
gap_text gap ends tabbed spaced text e =
    sym (append_assoc (ends ++ tabbed) spaced text) ∙ ap (λ (l : List ℕ). l ++ text) (append_assoc ends tabbed spaced ∙ sym e)

-- the gap and the lexeme that come next, and what is left after them
pub lexeme_next : {left spelled : List ℕ} (gap text rest : List ℕ) → left ≡ gap ++ (spelled ++ rest) → text ≡ spelled
    → left ≡ (gap ++ text) ++ rest
lexeme_next gap text rest next same =
    next ∙ ap (λ (l : List ℕ). gap ++ (l ++ rest)) (sym same) ∙ sym (append_assoc gap text rest)

-- they are done too
pub lexeme_more : (all done left gap text spelled rest : List ℕ) → all ≡ done ++ left → left ≡ gap ++ (spelled ++ rest) → text ≡ spelled
    → all ≡ (done ++ (gap ++ text)) ++ rest
lexeme_more all done left gap text spelled rest e next same =
    e
    ∙ ap (λ (l : List ℕ). done ++ l) (lexeme_next gap text rest next same)
    ∙ sym (append_assoc done (gap ++ text) rest)

-- ---- a layout, and what ends it

-- The sink took a beginning of a layout, and the rest is left. Its known bytes went from old to mid, and its failures from n to m.
pub record TookBeginning (old mid : Option (List ℕ)) (all done left : List ℕ) (n m : ℕ) : Type 0 where
  pub split : all ≡ done ++ left
  pub wrote : Accepts old mid done n m

-- the sink fails in a part of what is left
pub refuses_in : {old mid : Option (List ℕ)} {all done left : List ℕ} {n m : ℕ} (new : Option (List ℕ)) (part rest ended : List ℕ)
    (k : ℕ) → TookBeginning old mid all done left n m → left ≡ part ++ rest → Refuses mid new part m k
    → Refuses old new (all ++ ended) n k
refuses_in {old} {mid} {all} {done} {n = n} {m = m} new part rest ended k took next failed =
    let e : all ≡ (done ++ part) ++ rest = took.split ∙ ap (λ (l : List ℕ). done ++ l) next ∙ sym (append_assoc done part rest) in
    refuses_same old new ((done ++ part) ++ (rest ++ ended)) (all ++ ended) n k
    (sym (append_assoc (done ++ part) rest ended) ∙ ap (λ (l : List ℕ). l ++ ended) (sym e))
    (refuses_more old new (done ++ part) (rest ++ ended) n k (refused_after old mid new done part n m k took.wrote failed))

-- all of it is done
done_all : (all done left : List ℕ) → all ≡ done ++ left → left ≡ [] → done ≡ all
done_all all done left e none = sym (e ∙ ap (λ (l : List ℕ). done ++ l) none ∙ append-nil done)

-- the sink takes what ends it
pub accepts_end : {old mid : Option (List ℕ)} {all done left : List ℕ} {n m : ℕ} (new : Option (List ℕ)) (ended : List ℕ) (k : ℕ)
    → TookBeginning old mid all done left n m → left ≡ [] → Accepts mid new ended m k → Accepts old new (all ++ ended) n k
accepts_end {old} {mid} {all} {done} {left} {n} {m} new ended k took none more =
    accepts_same old new (done ++ ended) (all ++ ended) n k (ap (λ (l : List ℕ). l ++ ended) (done_all all done left took.split none))
    (accepted_both old mid new done ended n m k took.wrote more)

-- the sink fails in what ends it
pub refuses_end : {old mid : Option (List ℕ)} {all done left : List ℕ} {n m : ℕ} (new : Option (List ℕ)) (ended : List ℕ) (k : ℕ)
    → TookBeginning old mid all done left n m → left ≡ [] → Refuses mid new ended m k → Refuses old new (all ++ ended) n k
refuses_end {old} {mid} {all} {done} {left} {n} {m} new ended k took none failed =
    refuses_same old new (done ++ ended) (all ++ ended) n k (ap (λ (l : List ℕ). l ++ ended) (done_all all done left took.split none))
    (refused_after old mid new done ended n m k took.wrote failed)

-- ---- a lexeme is taken

-- no lexeme is empty
some_string : (s : List ℕ) → head s ≡ 34 → 0 < length s
some_string [] e = absurd (true≢false (sym (ap (λ (h : ℕ). h == 34) e)))
some_string (x ∷ xs) e = omega arith

some_word : (s : List ℕ) → ends_word s ≡ false → 0 < length s
some_word [] e = absurd (true≢false e)
some_word (x ∷ xs) e = omega arith

named_some : (l : Lexeme) → IsNamed l → 0 < length (text_of l)
named_some OpenObject h = omega arith
named_some CloseObject h = omega arith
named_some OpenArray h = omega arith
named_some CloseArray h = omega arith
named_some Comma h = omega arith
named_some Colon h = omega arith
named_some (String s) h = some_string s.now h
named_some (Word s) h = some_word s.now h.1

-- less is left after it
pub fewer_left : (r : Option (Spelled × Lexeme)) (old new : List ℕ)
    → MatchOption r ((old ≡ []) × (new ≡ [])) (λ next. old ≡ spelled_bytes next.0 ++ (text_of next.1 ++ new))
    → IfSome r (λ next. IsNamed next.1) → IfSome r (λ next. length new < length old)
fewer_left None old new is named = tt
fewer_left (Some next) old new is named =
    let gap = length-append (spelled_bytes next.0) (text_of next.1 ++ new) in
    let text = length-append (text_of next.1) new in
    omega (arith, ap length is, gap, text, named_some next.1 named)
