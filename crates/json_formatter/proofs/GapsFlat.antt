-- The rest of a list on one line is laid out as its flat line.
use Rattle.std.proofs.Common.{◌≡◌, refl, sym, ◌∙◌, ap, ℕ, ◌+◌, ◌-◌, ◌^◌, ◌≤◌, Bool, true, false, not, List, [], ◌∷◌, ◌++◌, append_assoc}
use Rattle.std.proofs.Common.{append-nil, le-leb, arith}
use Rattle.std.proofs.lemmas.Bool.{or_parts}
use Rattle.json.specs.Word.{ends_word}
use Rattle.prettyless_model.specs.Column.{saturating_add}
use Rattle.json_formatter.specs.ByValue.{brace_blank, flat, flat_items, flat_members, more_flat_items, more_flat_members}
use Rattle.json_formatter.specs.Documents.{closes, is_json_sign, lexeme_of, opens}
use Rattle.json_formatter.specs.Values.{PiecedValue as Value, alone, array, object, PiecedItems as Items, no_items, item}
use Rattle.json_formatter.specs.Values.{PiecedMembers as Members, no_members, member}
use Rattle.json_formatter.specs.Values.{bracket, pieced as spelled, pieced_items as spelled_items, more_pieced_items as more_items}
use Rattle.json_formatter.specs.Values.{pieced_members as spelled_members, more_pieced_members as more_members}
use Rattle.json_formatter.specs.Values.{pieced_items_depth as items_depth, pieced_members_depth as members_depth}
use Rattle.json_formatter.specs.Values.{IsFormedPieced as IsFormed, AreFormedPiecedItems as AreFormedItems}
use Rattle.json_formatter.specs.Values.{AreFormedPiecedMembers as AreFormedMembers}
use Rattle.json_formatter.specs.Flat.{blank_if, flat_line}
use Rattle.json_formatter.specs.Gaps.{flat_gap, flat_joint, gap_bytes, space_if}
use Rattle.json_formatter.specs.declared.gaps.Joint.{Joint}
use Rattle.json_formatter.specs.declared.gaps.Joint.TheVariants as joint
use Rattle.json_formatter.specs.declared.gaps.State.{State}
use Rattle.json_formatter.specs.declared.style.Style.{Style}
use Rattle.json_formatter.proofs.FlatTrees.{line_joined}
use Rattle.json_formatter.proofs.GapsAhead.{one_less_open}
use Rattle.json_formatter.proofs.GapsFrom.{laid_from}
use Rattle.json_formatter.proofs.GapsPassed.{HasRoom, Walks, both_stepped, items_pass, members_pass, steps}
use Rattle.json_formatter.proofs.ValueTrees.{IsPlain, formed_plain, key_formed, plain_lexeme}

-- ---- blanks

blank_is : (b : Bool) → gap_bytes (space_if b) ≡ flat_line (blank_if b)
blank_is true = refl
blank_is false = refl

closing_brace : (b : Bool) (l : List ℕ) → gap_bytes (space_if b) ++ (125 ∷ l) ≡ flat_line (blank_if b ++ (125 ∷ []) ∷ []) ++ l
closing_brace true l = refl
closing_brace false l = refl

-- two parts of a line, and what comes after them
parts_then : (xs ys : List (List ℕ)) (l : List ℕ) → flat_line xs ++ (flat_line ys ++ l) ≡ flat_line (xs ++ ys) ++ l
parts_then xs ys l = sym (ap (λ (bs : List ℕ). bs ++ l) (line_joined xs ys) ∙ append_assoc (flat_line xs) (flat_line ys) l)

word_joint : (s : List ℕ) → IsPlain s → flat_joint s ≡ joint.Nothing
word_joint s p = rw (p.mark, p.brace) refl

-- ---- pieces of a flat line

module _ (style : Style) where
  -- the lexeme of a piece after its gap, in front of what is made of the next joint
  abbrev lexeme_laid : List ℕ → (Joint → List ℕ) → Joint → List ℕ
  lexeme_laid s later j = gap_bytes (flat_gap style j s) ++ (lexeme_of s ++ later (flat_joint s))

  -- lexemes after their gaps
  abbrev line_laid : List (List ℕ) → (Joint → List ℕ) → Joint → List ℕ
  line_laid xs later = steps lexeme_laid xs later

  -- the gap before a lexeme that closes no list
  abbrev before : Joint → List ℕ
  before joint.Space = 32 ∷ []
  before joint.Brace = flat_line (brace_blank style)
  before _ = []

  gap_is : (j : Joint) (s : List ℕ) → closes s ≡ false → gap_bytes (flat_gap style j s) ≡ before j
  gap_is joint.Space s e = refl
  gap_is joint.Brace s e = rw e (blank_is (not style.compact))
  gap_is _ s e = let f = (or_parts (is_json_sign 125 s) (is_json_sign 93 s) e).0 in rw f refl

  -- such a lexeme
  first_laid : (s : List ℕ) (xs : List (List ℕ)) (later : Joint → List ℕ) (j : Joint) → closes s ≡ false
      → line_laid (s ∷ xs) later j ≡ before j ++ (lexeme_of s ++ line_laid xs later (flat_joint s))
  unfolding steps
  first_laid s xs later j e = ap (λ (g : List ℕ). g ++ (lexeme_of s ++ line_laid xs later (flat_joint s))) (gap_is j s e)

  -- a word or a key
  word_laid : (s : List ℕ) (xs : List (List ℕ)) (later : Joint → List ℕ) (j : Joint) → ends_word s ≡ false
      → line_laid (s ∷ xs) later j ≡ before j ++ (s ++ line_laid xs later joint.Nothing)
  word_laid s xs later j e =
      let p = formed_plain s e in
      first_laid s xs later j p.closes
      ∙ ap (λ (l : List ℕ). before j ++ (l ++ line_laid xs later (flat_joint s))) (plain_lexeme s p.opens)
      ∙ ap (λ (k : Joint). before j ++ (s ++ line_laid xs later k)) (word_joint s p)

  -- a key, its colon and what comes after them
  key_laid : (k : List ℕ) (xs : List (List ℕ)) (later : Joint → List ℕ) (j : Joint) → ends_word k ≡ false
      → line_laid (k ∷ (58 ∷ []) ∷ xs) later j ≡ before j ++ (k ++ 58 ∷ line_laid xs later joint.Space)
  unfolding steps
  key_laid k xs later j e = word_laid k ((58 ∷ []) ∷ xs) later j e

  none_laid : (later : Joint → List ℕ) (j : Joint) → line_laid [] later j ≡ later j
  unfolding steps
  none_laid later j = refl

  comma_laid : (xs : List (List ℕ)) (later : Joint → List ℕ)
      → line_laid ((44 ∷ []) ∷ xs) later joint.Nothing ≡ 44 ∷ line_laid xs later joint.Space
  unfolding steps
  comma_laid xs later = refl

  bracket_laid : (later : Joint → List ℕ) → line_laid ((93 ∷ []) ∷ []) later joint.Nothing ≡ 93 ∷ later joint.Nothing
  unfolding steps
  bracket_laid later = refl

  brace_laid : (later : Joint → List ℕ)
      → line_laid ((125 ∷ []) ∷ []) later joint.Nothing ≡ gap_bytes (space_if (not style.compact)) ++ (125 ∷ later joint.Nothing)
  unfolding steps
  brace_laid later = refl

  empty_laid : (later : Joint → List ℕ) → line_laid ((125 ∷ []) ∷ []) later joint.Brace ≡ 125 ∷ later joint.Nothing
  unfolding steps
  empty_laid later = refl

  -- ---- values

  -- these lexemes are laid as these texts after this joint
  abbrev LaidAs : Joint → List (List ℕ) → List (List ℕ) → Type 0
  LaidAs j xs texts = (later : Joint → List ℕ) → line_laid xs later j ≡ flat_line texts ++ later joint.Nothing

  abbrev ValueLaid : Value → Type 0
  ValueLaid v = (later : Joint → List ℕ) (j : Joint) → line_laid (spelled v) later j
      ≡ before j ++ (flat_line (flat style v) ++ later joint.Nothing)

  -- a value, and what comes after it
  value_then : (v : Value) (ys texts : List (List ℕ)) → ValueLaid v → LaidAs joint.Nothing ys texts → (later : Joint → List ℕ) (j : Joint)
      → line_laid (spelled v ++ ys) later j ≡ before j ++ (flat_line (flat style v ++ texts) ++ later joint.Nothing)
  value_then v ys texts h k later j =
      ap (λ (f : Joint → List ℕ). f j) (sym (both_stepped lexeme_laid (spelled v) ys later))
      ∙ h (line_laid ys later) j
      ∙ ap (λ (l : List ℕ). before j ++ (flat_line (flat style v) ++ l)) (k later)
      ∙ ap (λ (l : List ℕ). before j ++ l) (parts_then (flat style v) texts (later joint.Nothing))

  -- a member, and what comes after it
  member_then : (k : List ℕ) (v : Value) (ys texts : List (List ℕ)) → ends_word k ≡ false → ValueLaid v → LaidAs joint.Nothing ys texts
      → (later : Joint → List ℕ) (j : Joint)
      → line_laid (k ∷ (58 ∷ []) ∷ (spelled v ++ ys)) later j
      ≡ before j ++ (flat_line (k ∷ (58 ∷ []) ∷ (32 ∷ []) ∷ (flat style v ++ texts)) ++ later joint.Nothing)
  member_then k v ys texts e h i later j =
      let line = flat_line (flat style v ++ texts) in
      key_laid k (spelled v ++ ys) later j e
      ∙ ap (λ (l : List ℕ). before j ++ (k ++ 58 ∷ l)) (value_then v ys texts h i later joint.Space)
      ∙ ap (λ (l : List ℕ). before j ++ l) (sym (append_assoc k (58 ∷ 32 ∷ line) (later joint.Nothing)))

  mutual
    value_laid : (v : Value) → IsFormed v → ValueLaid v
    value_laid (alone s) h later j =
        word_laid s [] later j h
        ∙ ap (λ (l : List ℕ). before j ++ (s ++ l)) (none_laid later joint.Nothing)
        ∙ ap (λ (l : List ℕ). before j ++ (l ++ later joint.Nothing)) (sym (append-nil s))
    value_laid (array keeps vs) h later j =
        first_laid (bracket 91 keeps) (spelled_items vs) later j refl
        ∙ ap (λ (l : List ℕ). before j ++ (91 ∷ l)) (items_laid vs h later)
    value_laid (object keeps ms) h later j =
        first_laid (bracket 123 keeps) (spelled_members ms) later j refl
        ∙ ap (λ (l : List ℕ). before j ++ (123 ∷ l)) (members_laid ms h later)

    items_laid : (vs : Items) → AreFormedItems vs → LaidAs joint.Nothing (spelled_items vs) (flat_items style vs)
    items_laid no_items h later = bracket_laid later
    items_laid (item v vs) h later =
        value_then v (more_items vs) (more_flat_items style vs) (value_laid v h.0) (more_items_laid vs h.1) later joint.Nothing

    more_items_laid : (vs : Items) → AreFormedItems vs → LaidAs joint.Nothing (more_items vs) (more_flat_items style vs)
    more_items_laid no_items h later = bracket_laid later
    more_items_laid (item v vs) h later =
        comma_laid (spelled v ++ more_items vs) later
        ∙ ap (λ (l : List ℕ). 44 ∷ l)
        (value_then v (more_items vs) (more_flat_items style vs) (value_laid v h.0) (more_items_laid vs h.1) later joint.Space)

    members_laid : (ms : Members) → AreFormedMembers ms → LaidAs joint.Brace (spelled_members ms) (flat_members style ms)
    members_laid no_members h later = empty_laid later
    members_laid (member k v ms) h later =
        member_then k v (more_members ms) (more_flat_members style ms) (key_formed k h.0) (value_laid v h.1) (more_members_laid ms h.2)
        later joint.Brace
        ∙ parts_then (brace_blank style) (k ∷ (58 ∷ []) ∷ (32 ∷ []) ∷ (flat style v ++ more_flat_members style ms)) (later joint.Nothing)

    more_members_laid : (ms : Members) → AreFormedMembers ms → LaidAs joint.Nothing (more_members ms) (more_flat_members style ms)
    more_members_laid no_members h later = brace_laid later ∙ closing_brace (not style.compact) (later joint.Nothing)
    more_members_laid (member k v ms) h later =
        comma_laid (k ∷ (58 ∷ []) ∷ (spelled v ++ more_members ms)) later
        ∙ ap (λ (l : List ℕ). 44 ∷ l)
        (member_then k v (more_members ms) (more_flat_members style ms) (key_formed k h.0) (value_laid v h.1) (more_members_laid ms h.2)
        later joint.Space)

-- ---- the machine

-- the most lists that are counted
abbrev pub most : ℕ
most = 2 ^ 64 - 1

-- so many lists are open on one line, in a list that has lines of its own
abbrev pub on_line : ℕ → ℕ → ℕ → Joint → State
on_line d c n j = record { depth = d; flat = n; column = c; fills = false; joint = j }

each_joint : {A : Type 0} {f g : Joint → A} → ((j : Joint) → f j ≡ g j) → f ≡ g
each_joint h = λ i j. h j i

one_more : (n : ℕ) → n + 1 ≤ most → saturating_add n 1 ≡ n + 1
one_more n l = omega (arith, l)

first_list : (more : ℕ) → 1 + more ≤ most → HasRoom most 1 more
first_list more l = record { some = omega arith; within = l }

module _ (style : Style) (d c : ℕ) where
  abbrev line_from : ℕ → List (List ℕ) → Joint → List ℕ
  line_from n ss = λ j. laid_from style (on_line d c n j) ss

  abbrev line_left : ℕ → List (List ℕ) → Joint → List ℕ
  line_left n ss = line_from (n - 1) ss

  opened : (n : ℕ) (s : List ℕ) (ss : List (List ℕ)) (j : Joint) → 1 ≤ n → n + 1 ≤ most → opens s ≡ true
      → laid_from style (on_line d c n j) (s ∷ ss) ≡ lexeme_laid style s (line_from (n + 1) ss) j
  opened n s ss j l m o = rw (le-leb 1 n l, o, one_more n m) refl

  passed : (n : ℕ) (s : List ℕ) (ss : List (List ℕ)) (j : Joint) → 1 ≤ n → opens s ≡ false → closes s ≡ false
      → laid_from style (on_line d c n j) (s ∷ ss) ≡ lexeme_laid style s (line_from n ss) j
  passed n s ss j l o k = rw (le-leb 1 n l, o, k) refl

  closed : (n : ℕ) (s : List ℕ) (ss : List (List ℕ)) (j : Joint) → 1 ≤ n → opens s ≡ false → closes s ≡ true
      → laid_from style (on_line d c n j) (s ∷ ss) ≡ lexeme_laid style s (line_left n ss) j
  closed n s ss j l o k = rw (le-leb 1 n l, o, k) refl

  flat_walk : Walks (Joint → List ℕ) most (lexeme_laid style) line_from line_left
  flat_walk =
      record {
        opened = λ n s ss l m o. each_joint (λ j. opened n s ss j l m o);
        passed = λ n s ss l o k. each_joint (λ j. passed n s ss j l o k);
        closed = λ n s ss l o k. each_joint (λ j. closed n s ss j l o k);
        left = λ n ss l. ap (λ (m : ℕ). line_from m ss) (one_less_open n);
      }

  -- the rest of a list on one line, after the joint of its bracket
  abbrev pub LaysOnLine : Joint → List (List ℕ) → List ℕ → List (List ℕ) → Type 0
  LaysOnLine j rest line ss =
      laid_from style (on_line d c 1 j) (rest ++ ss) ≡ line ++ laid_from style (on_line d c 0 joint.Nothing) ss

  pub items_on_line : (vs : Items) → AreFormedItems vs → 1 + items_depth vs ≤ most → (ss : List (List ℕ))
      → LaysOnLine joint.Nothing (spelled_items vs) (flat_line (flat_items style vs)) ss
  items_on_line vs h m ss =
      let passes =
      items_pass (Joint → List ℕ) most (lexeme_laid style) line_from line_left flat_walk vs h (first_list (items_depth vs) m) ss in
      ap (λ (f : Joint → List ℕ). f joint.Nothing) passes ∙ items_laid style vs h (line_from 0 ss)

  pub members_on_line : (ms : Members) → AreFormedMembers ms → 1 + members_depth ms ≤ most → (ss : List (List ℕ))
      → LaysOnLine joint.Brace (spelled_members ms) (flat_line (flat_members style ms)) ss
  members_on_line ms h m ss =
      let passes =
      members_pass (Joint → List ℕ) most (lexeme_laid style) line_from line_left flat_walk ms h (first_list (members_depth ms) m) ss in
      ap (λ (f : Joint → List ℕ). f joint.Brace) passes ∙ members_laid style ms h (line_from 0 ss)
