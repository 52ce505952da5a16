-- Texts on their way to a writer, one after another.
use Rattle.std.proofs.Common.{◌≡◌, sym, ◌∙◌, ap, subst, ℕ, ◌+◌, ◌-◌, ◌≤◌, List, [], ◌++◌, append_assoc, append-nil}
use Rattle.std.proofs.Common.{length, length-append, arith}
use Rattle.std.specs.Prelude.{Option, Some, None, Result, Ok, Err, OnErr, replicate}
use Rattle.std.specs.Io.KnownBytes.{Appends}
use Rattle.std.proofs.KnownBytes.{Appends-trans}
use Rattle.prettyless_sink.specs.Sink.{AppendsProperBeginning}
use Rattle.json_formatter.specs.Outputs.{WritesHeld, WriterFailed}
use Rattle.json_formatter.proofs.BlankRuns.{run_left, run_more}

-- what is so after an error
pub on_err : {A E : Type 0} {P : Type 0} (r : Result A E) → P → OnErr r P
on_err (Ok x) p = tt
on_err (Err e) p = p

-- nothing was appended
pub appends_nothing : (known : Option (List ℕ)) → Appends known known []
appends_nothing None = tt
appends_nothing (Some xs) = sym (append-nil xs)

-- a text is held
pub hands_held : {known : Option (List ℕ)} (held left text : List ℕ) → left ≡ held ++ text → WritesHeld known known held left text
hands_held held left text e = record { sent = []; all = sym e; appends = appends_nothing _ }

-- one text, and then another
pub hands_both : {a b c : Option (List ℕ)} (held mid left x y : List ℕ) → WritesHeld a b held mid x → WritesHeld b c mid left y →
    WritesHeld a c held left (x ++ y)
hands_both held mid left x y h k = record {
  sent = h.sent ++ k.sent;
  all = sym (append_assoc held x y)
      ∙ ap (λ (l : List ℕ). l ++ y) h.all
      ∙ append_assoc h.sent mid y
      ∙ ap (λ (l : List ℕ). h.sent ++ l) k.all
      ∙ sym (append_assoc h.sent k.sent left);
  appends = Appends-trans _ _ _ h.sent k.sent h.appends k.appends;
}

-- one text, and in the next the writer fails
pub hands_stops : {a b c : Option (List ℕ)} (held mid x y : List ℕ) → WritesHeld a b held mid x → WriterFailed b c mid y →
    WriterFailed a c held (x ++ y)
hands_stops held mid x y h k = record {
  front = h.sent ++ k.front;
  back = k.back;
  all = sym (append_assoc held x y)
      ∙ ap (λ (l : List ℕ). l ++ y) h.all
      ∙ append_assoc h.sent mid y
      ∙ ap (λ (l : List ℕ). h.sent ++ l) k.all
      ∙ sym (append_assoc h.sent k.front k.back);
  some = k.some;
  appends = Appends-trans _ _ _ h.sent k.front h.appends k.appends;
}

-- the writer fails before another text
pub stops_before : {a b : Option (List ℕ)} (held x y : List ℕ) → WriterFailed a b held x → WriterFailed a b held (x ++ y)
stops_before held x y h = record {
  front = h.front;
  back = h.back ++ y;
  all = sym (append_assoc held x y) ∙ ap (λ (l : List ℕ). l ++ y) h.all ∙ append_assoc h.front h.back y;
  some = omega (arith, h.some, length-append h.back y);
  appends = h.appends;
}

-- one text, and then another is held
pub hands_more : {a b : Option (List ℕ)} (held mid left x y : List ℕ) → WritesHeld a b held mid x → left ≡ mid ++ y →
    WritesHeld a b held left (x ++ y)
hands_more held mid left x y h e = hands_both held mid left x y h (hands_held mid left y e)

-- the same text
pub hands_same : {a b : Option (List ℕ)} (held left x y : List ℕ) → x ≡ y → WritesHeld a b held left x → WritesHeld a b held left y
hands_same {a = a} {b = b} held left x y e h = rw (sym e) h

pub stops_same : {a b : Option (List ℕ)} (held x y : List ℕ) → x ≡ y → WriterFailed a b held x → WriterFailed a b held y
stops_same {a = a} {b = b} held x y e h = rw (sym e) h

-- what is held goes out, and with it all
pub all_out : (a b c : Option (List ℕ)) (left x y : List ℕ) → y ≡ left → WritesHeld a b [] left x → Appends b c y → Appends a c x
all_out a b c left x y e h k =
    rw (h.all) (Appends-trans a b c h.sent left h.appends (rw (sym e) k))

-- the writer fails in what is held
pub held_stops : (a b c : Option (List ℕ)) (left x y : List ℕ) → y ≡ left → WritesHeld a b [] left x → AppendsProperBeginning b c y →
    AppendsProperBeginning a c x
held_stops a b c left x y e h k = (
  h.sent ++ k.0,
  k.1,
  h.all ∙ ap (λ (l : List ℕ). h.sent ++ l) (sym e ∙ k.2) ∙ sym (append_assoc h.sent k.0 k.1),
  k.3,
  Appends-trans a b c h.sent k.0 h.appends k.4,
)

-- it failed before
pub stops_all : (a b : Option (List ℕ)) (x : List ℕ) → WriterFailed a b [] x → AppendsProperBeginning a b x
stops_all a b x h = (h.front, h.back, h.all, h.some, h.appends)

-- the writer fails in what is held, before a text
pub begun_stops : (a b : Option (List ℕ)) (held x text : List ℕ) → x ≡ held → AppendsProperBeginning a b x → WriterFailed a b held text
begun_stops a b held x text e k = record {
  front = k.0;
  back = k.1 ++ text;
  all = ap (λ (l : List ℕ). l ++ text) (sym e ∙ k.2) ∙ append_assoc k.0 k.1 text;
  some = let l = length k.1 in let m = length text in omega (arith, k.3, length-append k.1 text);
  appends = k.4;
}

-- it takes what is held, and the text
pub sent_all : {held x left text y : List ℕ} (a b c : Option (List ℕ)) → x ≡ held → y ≡ text → left ≡ [] → Appends a b x → Appends b c y
    → WritesHeld a c held left text
sent_all {held} {x} {text = text} {y = y} a b c e f none h k = record {
  sent = x ++ y;
  all = rw (e, f, none) (sym (append-nil (held ++ text)));
  appends = Appends-trans a b c x y h k;
}

-- it takes what is held, and fails in the text
pub sent_stops : {held x text y : List ℕ} (a b c : Option (List ℕ)) → x ≡ held → y ≡ text → Appends a b x → AppendsProperBeginning b c y
    → WriterFailed a c held text
sent_stops {held} {x} a b c e f h k = record {
  front = x ++ k.0;
  back = k.1;
  all = rw (e, sym f ∙ k.2) (sym (append_assoc held k.0 k.1));
  some = k.3;
  appends = Appends-trans a b c x k.0 h k.4;
}

-- ---- blanks

-- a piece more
pub blanks_hand : {a b c : Option (List ℕ)} (x : ℕ) (held mid left piece : List ℕ) (n i k : ℕ) → n ≡ i + k → piece ≡ replicate k x
    → WritesHeld a b held mid (replicate i x) → WritesHeld b c mid left piece → WritesHeld a c held left (replicate n x)
blanks_hand x held mid left piece n i k sum e h m =
    hands_same held left (replicate i x ++ piece) (replicate n x) (run_more x piece n i k sum e)
    (hands_both held mid left (replicate i x) piece h m)

-- the writer fails in a piece
pub blanks_stop : {a b c : Option (List ℕ)} (x : ℕ) (held mid piece : List ℕ) (n i k : ℕ) → i + k ≤ n → piece ≡ replicate k x
    → WritesHeld a b held mid (replicate i x) → WriterFailed b c mid piece → WriterFailed a c held (replicate n x)
blanks_stop x held mid piece n i k le e h m =
    stops_same held ((replicate i x ++ piece) ++ replicate (n - (i + k)) x) (replicate n x) (run_left x piece n i k le e)
    (stops_before held (replicate i x ++ piece) (replicate (n - (i + k)) x) (hands_stops held mid (replicate i x) piece h m))

-- ---- a layout

-- the writer fails in a part of it
pub stops_in : {a b c : Option (List ℕ)} (held mid all done x rest : List ℕ) → all ≡ done ++ (x ++ rest) → WritesHeld a b held mid done
    → WriterFailed b c mid x → WriterFailed a c held all
stops_in held mid all done x rest e h m =
    stops_same held ((done ++ x) ++ rest) all (append_assoc done x rest ∙ sym e)
    (stops_before held (done ++ x) rest (hands_stops held mid done x h m))

-- it failed before the last text, where nothing was held at first
pub out_stops : (a b : Option (List ℕ)) (held x y : List ℕ) → held ≡ [] → WriterFailed a b held x → AppendsProperBeginning a b (x ++ y)
out_stops a b held x y none m = stops_all a b (x ++ y) (stops_before [] x y (subst (λ (l : List ℕ). WriterFailed a b l x) none m))

-- it fails in the last text
pub out_fails : (a b c : Option (List ℕ)) (held mid x y : List ℕ) → held ≡ [] → WritesHeld a b held mid x → WriterFailed b c mid y →
    AppendsProperBeginning a c (x ++ y)
out_fails a b c held mid x y none h m =
    stops_all a c (x ++ y) (hands_stops [] mid x y (subst (λ (l : List ℕ). WritesHeld a b l mid x) none h) m)

-- both are after what was held at first, which is nothing
pub out_hands : (a b c : Option (List ℕ)) (held mid left x y : List ℕ) → held ≡ [] → WritesHeld a b held mid x →
    WritesHeld b c mid left y
    → WritesHeld a c [] left (x ++ y)
out_hands a b c held mid left x y none h m = hands_both [] mid left x y (subst (λ (l : List ℕ). WritesHeld a b l mid x) none h) m

-- ---- a text that is kept

-- a piece of blanks more
pub blanks_more : (x : ℕ) (old mid new piece : List ℕ) (n i k : ℕ) → n ≡ i + k → piece ≡ replicate k x → mid ≡ old ++ replicate i x
    → new ≡ mid ++ piece → new ≡ old ++ replicate n x
blanks_more x old mid new piece n i k sum e before after =
    after
    ∙ ap (λ (l : List ℕ). l ++ piece) before
    ∙ append_assoc old (replicate i x) piece
    ∙ ap (λ (l : List ℕ). old ++ l) (run_more x piece n i k sum e)
