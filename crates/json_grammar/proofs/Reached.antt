-- What is read of the lexemes of a text, up to one of them.
use Rattle.std.proofs.Common.{◌≡◌, ◌≢◌, ℕ, ◌+◌, ◌≤◌, Bool, true, false, cond, List, [], ◌∷◌, ◌++◌, length, take, drop, Option, Some, None}
use Rattle.std.proofs.Common.{option_and_then, refl, sym, ap, ◌∙◌, subst, arith, append-nil, append_assoc, length-append, ◌⊎◌, inl, inr}
use Rattle.std.proofs.Common.{Result, IfOk}
use Rattle.std.specs.List.{prefix_len}
use Rattle.std.proofs.lemmas.Result.{IfOk-weaker}
use Rattle.std.proofs.lemmas.Bool.{cases_Bool}
use Rattle.std.proofs.lemmas.List.{drop-drop, length-take}
use Rattle.json_grammar.specs.Faults.{begins_value, expects_string, is_plain, plain_front, IsFaultBy, IsStopFrom, ReachesJson}
use Rattle.json_grammar.specs.Faults.{IsOpening, OpensWithin, StopsAtEnd, StopsAtLexeme, StopsBeingJson}
use Rattle.text_lexemes.specs.Places.{IsPlace}
use Rattle.text_lexemes.specs.declared.place.Place.{Place}
use Rattle.json_lexemes.specs.Lexemes.{lexemes}
use Rattle.json_lexemes.specs.SpacedLexemes.{Spaced, after_gap, after_lexeme, first_spaces, lexemes_of, put_together}
use Rattle.json_lexemes.specs.SpacedLexemes.{spaced_as, spaced_lexemes}
use Rattle.json_lexemes.proofs.SpacedLexemes.{texts_joined}
use Rattle.json_grammar.specs.Readings.{JsonReading, first_json_reading, json_step, json_reading_after, json_sort_of, JsonSort}
use Rattle.json_grammar.specs.Readings.{open_array, close_array, open_object, close_object, comma, colon, string, word}
use Rattle.json_grammar.specs.declared.expected.Expected.{Expected}
use Rattle.json_grammar.specs.declared.expected.Expected.TheVariants as want
use Rattle.json_grammar.specs.declared.fault.Stop.{Stop}
use Rattle.json_grammar.proofs.Content.{string_within}

-- ---- lexemes one after the other

and_then_twice : (o : Option JsonReading) (ss ts : List (List ℕ))
    → ((r : JsonReading) → json_reading_after r (ss ++ ts) ≡ option_and_then (λ t. json_reading_after t ts) (json_reading_after r ss))
    → option_and_then (λ t. json_reading_after t (ss ++ ts)) o
    ≡ option_and_then (λ t. json_reading_after t ts) (option_and_then (λ t. json_reading_after t ss) o)
and_then_twice None ss ts h = refl
and_then_twice (Some r) ss ts h = h r

pub read-append : (ss ts : List (List ℕ)) (r : JsonReading)
    → json_reading_after r (ss ++ ts) ≡ option_and_then (λ t. json_reading_after t ts) (json_reading_after r ss)
read-append [] ts r = refl
read-append (s ∷ ss) ts r = and_then_twice (json_step r s) ss ts (λ t. read-append ss ts t)

pub lexemes_of-append : (ps qs : List Spaced) → lexemes_of (ps ++ qs) ≡ lexemes_of ps ++ lexemes_of qs
lexemes_of-append [] qs = refl
lexemes_of-append (p ∷ ps) qs = ap (λ (l : List (List ℕ)). p.lexeme ∷ l) (lexemes_of-append ps qs)

pub together-append : (ps qs : List Spaced) → put_together (ps ++ qs) ≡ put_together ps ++ put_together qs
together-append [] qs = refl
together-append (p ∷ ps) qs =
    ap (λ (l : List ℕ). p.gap ++ (p.lexeme ++ l)) (together-append ps qs)
    ∙ ap (λ (l : List ℕ). p.gap ++ l) (sym (append_assoc p.lexeme (put_together ps) (put_together qs)))
    ∙ sym (append_assoc p.gap (p.lexeme ++ put_together ps) (put_together qs))

-- ---- a fault is within its lexeme

pub front_within : (b : Bool) (s : List ℕ) → cond b (length (plain_front s)) 0 ≤ length s
front_within true s = omega (arith, length-take (prefix_len is_plain s) s)
front_within false s = omega arith

pub fault_within : (sort : JsonSort) (r : JsonReading) (s : List ℕ) (d : ℕ) (e : Expected) → IsFaultBy sort r s d e → d ≤ length s
fault_within open_array r s d e h = omega (arith, h.0)
fault_within close_array r s d e h = omega (arith, h.0)
fault_within open_object r s d e h = omega (arith, h.0)
fault_within close_object r s d e h = omega (arith, h.0)
fault_within comma r s d e h = omega (arith, h.0)
fault_within colon r s d e h = omega (arith, h.0)
fault_within string r s d e h = by (cases_Bool (expects_string r.next))
  where
    by : (expects_string r.next ≡ true) ⊎ (expects_string r.next ≡ false) → d ≤ length s
    by (inl may) = string_within s d e (h.inside may)
    by (inr not) = omega (arith, (h.other not).0)
fault_within word r s d e h = omega (arith, h.0, front_within (begins_value r s) s)

-- ---- so far

-- some lexemes have been read, up to this offset, which lead to the reading; these others are left
pub record IsRead (text : List ℕ) (others : List (List ℕ)) (reading : JsonReading) (offset : ℕ) : Type 0 where
  pub front : List Spaced
  pub cut : spaced_lexemes text ≡ front ++ spaced_as (drop offset text) others
  pub reads : json_reading_after first_json_reading (lexemes_of front) ≡ Some reading
  pub bytes : length (put_together front) ≡ offset

pub none_read : (text : List ℕ) → IsRead text (lexemes text) first_json_reading 0
none_read text = record { front = []; cut = refl; reads = refl; bytes = refl }

-- these and those after them are within the text
together_within : (text : List ℕ) (ps qs : List Spaced) → spaced_lexemes text ≡ ps ++ qs
    → length (put_together ps) + length (put_together qs) ≤ length text
together_within text ps qs cut =
    let joined = texts_joined text in
    let all = ap length (joined.2 ∙ ap (λ (l : List Spaced). put_together l ++ joined.0) cut) in
    omega (
      arith,
      all,
      length-append (put_together (ps ++ qs)) joined.0,
      ap length (together-append ps qs),
      length-append (put_together ps) (put_together qs),
    )

module _ (text : List ℕ) (others : List (List ℕ)) (reading : JsonReading) (offset : ℕ) (h : IsRead text others reading offset) where
  pub read_within : offset ≤ length text
  read_within = omega (arith, together_within text h.front (spaced_as (drop offset text) others) h.cut, h.bytes)

  -- no lexeme is left
  all_reached : others ≡ [] → ReachesJson text [] reading
  all_reached none = record {
    front = h.front;
    cut = h.cut ∙ ap (λ (l : List (List ℕ)). h.front ++ spaced_as (drop offset text) l) none;
    reads = h.reads;
  }

  pub at_end : others ≡ [] → (ReachesJson text [] reading → reading.next ≢ want.End) → StopsAtEnd text (length text) reading.next
  at_end none unfinished =
      record {
        reading = reading;
        reached = all_reached none;
        unfinished = unfinished (all_reached none);
        expects = refl;
        place = refl;
      }

  module _ (s : List ℕ) (rest : List (List ℕ)) (is : others ≡ s ∷ rest) where
    -- the gap before the next lexeme, and the lexeme
    abbrev gap : List ℕ
    gap = first_spaces (drop offset text)

    abbrev next : Spaced
    next = after_gap gap s

    abbrev later : List Spaced
    later = spaced_as (after_lexeme (drop offset text) s) rest

    cut_next : spaced_lexemes text ≡ h.front ++ next ∷ later
    cut_next = h.cut ∙ ap (λ (l : List (List ℕ)). h.front ++ spaced_as (drop offset text) l) is

    pub next_within : offset + length gap + length s ≤ length text
    next_within =
        omega (
          arith,
          together_within text h.front (next ∷ later) cut_next,
          h.bytes,
          length-append gap (s ++ put_together later),
          length-append s (put_together later),
        )

    -- it may stand there
    pub one_more : (t : JsonReading) → json_step reading s ≡ Some t → IsRead text rest t (offset + length gap + length s)
    one_more t step =
        let before : drop (length gap + length s) (drop offset text) ≡ drop (offset + length gap + length s) text =
        drop-drop (length gap + length s) offset text
        ∙ ap (λ (n : ℕ). drop n text) (omega arith) in
        record {
          front = h.front ++ next ∷ [];
          cut =
              cut_next ∙ sym (append_assoc h.front (next ∷ []) later)
              ∙ ap (λ (l : List ℕ). (h.front ++ next ∷ []) ++ spaced_as l rest) before;
          reads =
              ap (json_reading_after first_json_reading) (lexemes_of-append h.front (next ∷ []))
              ∙ read-append (lexemes_of h.front) (s ∷ []) first_json_reading
              ∙ ap (option_and_then (λ t. json_reading_after t (s ∷ []))) h.reads
              ∙ ap (option_and_then (λ t. json_reading_after t [])) step;
          bytes =
              omega (
                arith,
                ap length (together-append h.front (next ∷ [])),
                length-append (put_together h.front) (gap ++ (s ++ [])),
                length-append gap (s ++ []),
                ap length (append-nil s),
                h.bytes,
              );
        }

    -- it opens a list within so many
    pub opens_within : (most : ℕ) (place : Place) → IsOpening s → most ≤ length reading.open_brackets
        → IsPlace (take (offset + length gap) text) place → OpensWithin most text place
    opens_within most place opens deep at =
        record {
          found = next;
          later = later;
          reading = reading;
          reached = record { front = h.front; cut = cut_next; reads = h.reads };
          opens = opens;
          deep = deep;
          at = subst (λ (n : ℕ). IsPlace (take (n + length gap) text) place) (sym h.bytes) at;
        }

    -- it may not
    pub at_lexeme : (stop within : ℕ) (e : Expected) → json_step reading s ≡ None → stop ≡ offset + length gap + within
        → IsFaultBy (json_sort_of s) reading s within e → StopsAtLexeme text stop e
    at_lexeme stop within e none place fault =
        record {
          found = next;
          later = later;
          reading = reading;
          reached = record { front = h.front; cut = cut_next; reads = h.reads };
          stops = none;
          within = within;
          fault = fault;
          place = omega (arith, h.bytes);
        }

    -- where the code stops
    module _ (t : JsonReading) (start : ℕ) {E : Type 0} (r : Result Stop E) (same : t ≡ reading) (begins : start ≡ offset + length gap)
        (found : IfOk r (λ stop. IsStopFrom start stop.offset (λ within. IsFaultBy (json_sort_of s) t s within stop.expected))) where
      fault_here : (stop : Stop) → (h : IsStopFrom start stop.offset (λ within. IsFaultBy (json_sort_of s) t s within stop.expected))
          → IsFaultBy (json_sort_of s) reading s h.0 stop.expected
      fault_here stop h = subst (λ (x : JsonReading). IsFaultBy (json_sort_of s) x s h.0 stop.expected) same h.2

      pub stops_here : json_step reading s ≡ None → IfOk r (λ stop. StopsBeingJson text stop.offset stop.expected)
      stops_here none = IfOk-weaker r _ _ (λ stop h. inl (at_lexeme stop.offset h.0 stop.expected none (omega (arith, h.1))
          (fault_here stop h))) found

      pub stops_within : IfOk r (λ stop. stop.offset ≤ length text)
      stops_within = IfOk-weaker r _ _ (λ stop h. omega (
        arith,
        h.1,
        next_within,
        fault_within (json_sort_of s) reading s h.0 stop.expected (fault_here stop h),
      )) found
