-- The pieces of a text that is JSON spell a value.
use Rattle.std.proofs.Common.{◌≡◌, refl, sym, ◌∙◌, ap, ℕ, ◌≤◌, Bool, true, false, not, ◌&&◌, List, [], ◌∷◌, ◌++◌, append_assoc}
use Rattle.std.proofs.Common.{Some}
use Rattle.std.proofs.Common.{append-nil, inl, inr, ◌⊎◌, subst}
use Rattle.std.specs.Prelude.{⊤, if◌then◌else◌}
use Rattle.std.proofs.lemmas.Bool.{cases_Bool}
use Rattle.json.specs.Json.{Json}
use Rattle.json.specs.Word.{head, ends_word}
use Rattle.json_validity.specs.Document.{document, max_depth}
use Rattle.json_lexemes.specs.Lexemes.{lexemes}
use Rattle.json_lexemes.specs.SpacedLexemes.{Spaced, after_gap, lexemes_of, spaced_lexemes}
use Rattle.json_lexemes.proofs.SpacedLexemes.{spaced_are_lexemes}
use Rattle.json_grammar.specs.Grammar as g
use Rattle.json_grammar.specs.Grammar.{SpellValue}
use Rattle.json_grammar.proofs.Grammar.{spell_document}
use Rattle.json_formatter.specs.Documents.{lexeme_of, next_is, opens}
use Rattle.json_formatter.specs.Flat.{is_mark}
use Rattle.json_formatter.specs.Pieces.{begins_line, lexemes_of_pieces, piece, text_pieces, pieces_of}
use Rattle.json_formatter.specs.Values.{PiecedValue as Value, alone, array, object, PiecedItems as Items, no_items, item}
use Rattle.json_formatter.specs.Values.{PiecedMembers as Members, no_members, member, bracket, line_end_if}
use Rattle.json_formatter.specs.Values.{bare, bare_items, bare_members, pieced as spelled, pieced_items as spelled_items}
use Rattle.json_formatter.specs.Values.{more_pieced_items as more_items, pieced_members as spelled_members}
use Rattle.json_formatter.specs.Values.{more_pieced_members as more_members}
use Rattle.json_formatter.specs.Values.{pieced_depth as depth, IsFormedPieced as IsFormed, AreFormedPiecedItems as AreFormedItems}
use Rattle.json_formatter.specs.Values.{AreFormedPiecedMembers as AreFormedMembers}
use Rattle.json_formatter.specs.declared.style.Style.{Style}
use Rattle.json_formatter.proofs.ValueTrees.{formed_plain, key_formed, plain_lexeme}

-- ---- one piece

-- the first of these lexemes, and the others
record FirstOf (ps : List Spaced) (s : List ℕ) (ss : List (List ℕ)) : Type 0 where
  gap : List ℕ
  rest : List Spaced
  is : ps ≡ after_gap gap s ∷ rest
  later : lexemes_of rest ≡ ss

first_of : (ps : List Spaced) (s : List ℕ) (ss : List (List ℕ)) → lexemes_of ps ≡ s ∷ ss → FirstOf ps s ss
first_of [] s ss e = absurd (cc)
first_of (p ∷ ps) s ss e =
    let same : p.lexeme ≡ s = cc in
    let later : lexemes_of ps ≡ ss = cc in
    record { gap = p.gap; rest = ps; is = ap (λ (l : List ℕ). after_gap p.gap l ∷ ps) same; later = later }

-- a lexeme that opens no list
pub plain_piece : (c : Bool) (s : List ℕ) (ps : List Spaced) → opens s ≡ false → piece c s ps ≡ s
plain_piece c s ps e = rw e refl

word_opens : (s : List ℕ) → ends_word s ≡ false → opens s ≡ false
word_opens s e = (formed_plain s e).opens

-- whether a list is kept broken
abbrev is_kept : Bool → List Spaced → Bool
is_kept c ps = not c && begins_line ps

-- ---- values

-- The first pieces spell this, which is w without line ends; those of the rest come after them.
record Spell {V W : Type 0} (texts : V → List (List ℕ)) (plain : V → W) (c : Bool) (ps : List Spaced) (w : W) (ss : List (List ℕ)) :
    Type 0 where
  what : V
  rest : List Spaced
  later : lexemes_of rest ≡ ss
  spells : pieces_of c ps ≡ texts what ++ pieces_of c rest
  same : plain what ≡ w

module _ (c : Bool) where
  abbrev SpellsValue : g.Value → Type 0
  SpellsValue w = (ps : List Spaced) (ss : List (List ℕ)) → lexemes_of ps ≡ g.spelled w ++ ss → Spell spelled bare c ps w ss

  abbrev SpellsItems : g.Items → Type 0
  SpellsItems ws = (ps : List Spaced) (ss : List (List ℕ)) → lexemes_of ps ≡ g.spelled_items ws ++ ss
      → Spell spelled_items bare_items c ps ws ss

  abbrev SpellsMore : g.Items → Type 0
  SpellsMore ws = (ps : List Spaced) (ss : List (List ℕ)) → lexemes_of ps ≡ g.more_items ws ++ ss → Spell more_items bare_items c ps ws ss

  abbrev SpellsMembers : g.Members → Type 0
  SpellsMembers ws = (ps : List Spaced) (ss : List (List ℕ)) → lexemes_of ps ≡ g.spelled_members ws ++ ss
      → Spell spelled_members bare_members c ps ws ss

  abbrev SpellsMoreMembers : g.Members → Type 0
  SpellsMoreMembers ws = (ps : List Spaced) (ss : List (List ℕ)) → lexemes_of ps ≡ g.more_members ws ++ ss
      → Spell more_members bare_members c ps ws ss

  -- a lexeme that opens no list in front
  pieces_first : (s : List ℕ) {ps : List Spaced} {ss : List (List ℕ)} → opens s ≡ false → (f : FirstOf ps s ss)
      → pieces_of c ps ≡ s ∷ pieces_of c f.rest
  pieces_first s e f = ap (pieces_of c) f.is ∙ ap (λ (t : List ℕ). t ∷ pieces_of c f.rest) (plain_piece c s f.rest e)

  square_first : {ps : List Spaced} {ss : List (List ℕ)} (f : FirstOf ps (91 ∷ []) ss)
      → pieces_of c ps ≡ bracket 91 (is_kept c f.rest) ∷ pieces_of c f.rest
  square_first f = ap (pieces_of c) f.is

  curly_first : {ps : List Spaced} {ss : List (List ℕ)} (f : FirstOf ps (123 ∷ []) ss)
      → pieces_of c ps ≡ bracket 123 (is_kept c f.rest) ∷ pieces_of c f.rest
  curly_first f = ap (pieces_of c) f.is

  -- a value, and more
  value_and : {V W : Type 0} {texts : V → List (List ℕ)} {plain : V → W} {w : g.Value} {ws : W} {ps : List Spaced}
      {ss ls : List (List ℕ)} (v : Spell spelled bare c ps w ls) (m : Spell texts plain c v.rest ws ss)
      → pieces_of c ps ≡ (spelled v.what ++ texts m.what) ++ pieces_of c m.rest
  value_and {texts = texts} v m =
      v.spells ∙ ap (λ (l : List (List ℕ)). spelled v.what ++ l) m.spells
      ∙ sym (append_assoc (spelled v.what) (texts m.what) (pieces_of c m.rest))

  mutual
    spell_value : (w : g.Value) → g.IsFormed w → SpellsValue w
    spell_value (g.alone s) h ps ss e =
        let f = first_of ps s ss e in
        record { what = alone s; rest = f.rest; later = f.later; spells = pieces_first s (word_opens s h) f; same = refl }
    spell_value (g.array ws) h ps ss e =
        let f = first_of ps (91 ∷ []) (g.spelled_items ws ++ ss) e in
        let m = spell_items ws h f.rest ss f.later in
        let b = is_kept c f.rest in
        record {
          what = array b m.what;
          rest = m.rest;
          later = m.later;
          spells = square_first f ∙ ap (λ (l : List (List ℕ)). bracket 91 b ∷ l) m.spells;
          same = ap g.array m.same;
        }
    spell_value (g.object ws) h ps ss e =
        let f = first_of ps (123 ∷ []) (g.spelled_members ws ++ ss) e in
        let m = spell_members ws h f.rest ss f.later in
        let b = is_kept c f.rest in
        record {
          what = object b m.what;
          rest = m.rest;
          later = m.later;
          spells = curly_first f ∙ ap (λ (l : List (List ℕ)). bracket 123 b ∷ l) m.spells;
          same = ap g.object m.same;
        }

    spell_items : (ws : g.Items) → g.AreFormedItems ws → SpellsItems ws
    spell_items g.no_items h ps ss e =
        let f = first_of ps (93 ∷ []) ss e in
        record { what = no_items; rest = f.rest; later = f.later; spells = pieces_first (93 ∷ []) refl f; same = refl }
    spell_items (g.item w ws) h ps ss e =
        let v = spell_value w h.0 ps (g.more_items ws ++ ss) (e ∙ append_assoc (g.spelled w) (g.more_items ws) ss) in
        let m = spell_more ws h.1 v.rest ss v.later in
        record {
          what = item v.what m.what;
          rest = m.rest;
          later = m.later;
          spells = value_and v m;
          same = ap (λ (x : g.Value). g.item x (bare_items m.what)) v.same ∙ ap (g.item w) m.same;
        }

    spell_more : (ws : g.Items) → g.AreFormedItems ws → SpellsMore ws
    spell_more g.no_items h ps ss e =
        let f = first_of ps (93 ∷ []) ss e in
        record { what = no_items; rest = f.rest; later = f.later; spells = pieces_first (93 ∷ []) refl f; same = refl }
    spell_more (g.item w ws) h ps ss e =
        let f = first_of ps (44 ∷ []) ((g.spelled w ++ g.more_items ws) ++ ss) e in
        let v = spell_value w h.0 f.rest (g.more_items ws ++ ss) (f.later ∙ append_assoc (g.spelled w) (g.more_items ws) ss) in
        let m = spell_more ws h.1 v.rest ss v.later in
        record {
          what = item v.what m.what;
          rest = m.rest;
          later = m.later;
          spells = pieces_first (44 ∷ []) refl f ∙ ap (λ (l : List (List ℕ)). (44 ∷ []) ∷ l) (value_and v m);
          same = ap (λ (x : g.Value). g.item x (bare_items m.what)) v.same ∙ ap (g.item w) m.same;
        }

    spell_members : (ws : g.Members) → g.AreFormedMembers ws → SpellsMembers ws
    spell_members g.no_members h ps ss e =
        let f = first_of ps (125 ∷ []) ss e in
        record { what = no_members; rest = f.rest; later = f.later; spells = pieces_first (125 ∷ []) refl f; same = refl }
    spell_members (g.member k w ws) h ps ss e =
        let f = first_of ps k ((58 ∷ []) ∷ ((g.spelled w ++ g.more_members ws) ++ ss)) e in
        let d = first_of f.rest (58 ∷ []) ((g.spelled w ++ g.more_members ws) ++ ss) f.later in
        let v = spell_value w h.1 d.rest (g.more_members ws ++ ss) (d.later ∙ append_assoc (g.spelled w) (g.more_members ws) ss) in
        let m = spell_more_members ws h.2 v.rest ss v.later in
        record {
          what = member k v.what m.what;
          rest = m.rest;
          later = m.later;
          spells =
              pieces_first k (word_opens k (key_formed k h.0)) f
              ∙ ap (λ (l : List (List ℕ)). k ∷ l) (pieces_first (58 ∷ []) refl d)
              ∙ ap (λ (l : List (List ℕ)). k ∷ (58 ∷ []) ∷ l) (value_and v m);
          same = ap (λ (x : g.Value). g.member k x (bare_members m.what)) v.same ∙ ap (g.member k w) m.same;
        }

    spell_more_members : (ws : g.Members) → g.AreFormedMembers ws → SpellsMoreMembers ws
    spell_more_members g.no_members h ps ss e =
        let f = first_of ps (125 ∷ []) ss e in
        record { what = no_members; rest = f.rest; later = f.later; spells = pieces_first (125 ∷ []) refl f; same = refl }
    spell_more_members (g.member k w ws) h ps ss e =
        let a = first_of ps (44 ∷ []) (k ∷ (58 ∷ []) ∷ ((g.spelled w ++ g.more_members ws) ++ ss)) e in
        let f = first_of a.rest k ((58 ∷ []) ∷ ((g.spelled w ++ g.more_members ws) ++ ss)) a.later in
        let d = first_of f.rest (58 ∷ []) ((g.spelled w ++ g.more_members ws) ++ ss) f.later in
        let v = spell_value w h.1 d.rest (g.more_members ws ++ ss) (d.later ∙ append_assoc (g.spelled w) (g.more_members ws) ss) in
        let m = spell_more_members ws h.2 v.rest ss v.later in
        record {
          what = member k v.what m.what;
          rest = m.rest;
          later = m.later;
          spells =
              pieces_first (44 ∷ []) refl a
              ∙ ap (λ (l : List (List ℕ)). (44 ∷ []) ∷ l) (pieces_first k (word_opens k (key_formed k h.0)) f)
              ∙ ap (λ (l : List (List ℕ)). (44 ∷ []) ∷ k ∷ l) (pieces_first (58 ∷ []) refl d)
              ∙ ap (λ (l : List (List ℕ)). (44 ∷ []) ∷ k ∷ (58 ∷ []) ∷ l) (value_and v m);
          same = ap (λ (x : g.Value). g.member k x (bare_members m.what)) v.same ∙ ap (g.member k w) m.same;
        }

-- ---- a text

-- the pieces of a text spell this value, and its lexemes the same without line ends
pub record IsSpelled (style : Style) (text : List ℕ) : Type 0 where
  pub value : Value
  pub spells : text_pieces style text ≡ spelled value
  pub lexemes : lexemes text ≡ g.spelled (bare value)
  pub shallow : depth value ≤ max_depth
  pub formed : IsFormed value

pub spell_pieces : (style : Style) (text : List ℕ) (j : Json) → document text ≡ Some j → IsSpelled style text
spell_pieces style text j is =
    let h = spell_document text j is in
    let ps = spaced_lexemes text in
    let all : lexemes_of ps ≡ g.spelled h.value ++ [] = spaced_are_lexemes text ∙ h.spells ∙ sym (append-nil (g.spelled h.value)) in
    let v = spell_value style.compact h.value h.formed ps [] all in
    let none : pieces_of style.compact v.rest ≡ [] = none_left style.compact v.rest v.later in
    record {
      value = v.what;
      spells =
          v.spells ∙ ap (λ (l : List (List ℕ)). spelled v.what ++ l) none ∙ append-nil (spelled v.what);
      lexemes = h.spells ∙ ap g.spelled (sym v.same);
      shallow = subst (λ (w : g.Value). g.depth w ≤ max_depth) (sym v.same) h.shallow;
      formed = subst g.IsFormed (sym v.same) h.formed;
    }
  where
    none_left : (c : Bool) (ps : List Spaced) → lexemes_of ps ≡ [] → pieces_of c ps ≡ []
    none_left c [] e = refl
    none_left c (p ∷ ps) e = absurd (cc)

-- ---- without line ends

-- no lexeme has one after it
abbrev AreSole : List (List ℕ) → Type 0
AreSole [] = ⊤
AreSole (s ∷ ss) = (lexeme_of s ≡ s) × AreSole ss

sole_joined : (xs ys : List (List ℕ)) → AreSole xs → AreSole ys → AreSole (xs ++ ys)
sole_joined [] ys h k = k
sole_joined (x ∷ xs) ys h k = (h.0, sole_joined xs ys h.1 k)

sole_word : (s : List ℕ) → ends_word s ≡ false → lexeme_of s ≡ s
sole_word s e = plain_lexeme s (word_opens s e)

mutual
  sole_value : (v : g.Value) → g.IsFormed v → AreSole (g.spelled v)
  sole_value (g.alone s) h = (sole_word s h, tt)
  sole_value (g.array vs) h = (refl, sole_items vs h)
  sole_value (g.object ms) h = (refl, sole_members ms h)

  sole_items : (vs : g.Items) → g.AreFormedItems vs → AreSole (g.spelled_items vs)
  sole_items g.no_items h = (refl, tt)
  sole_items (g.item v vs) h = sole_joined (g.spelled v) (g.more_items vs) (sole_value v h.0) (sole_more vs h.1)

  sole_more : (vs : g.Items) → g.AreFormedItems vs → AreSole (g.more_items vs)
  sole_more g.no_items h = (refl, tt)
  sole_more (g.item v vs) h = (refl, sole_joined (g.spelled v) (g.more_items vs) (sole_value v h.0) (sole_more vs h.1))

  sole_members : (ms : g.Members) → g.AreFormedMembers ms → AreSole (g.spelled_members ms)
  sole_members g.no_members h = (refl, tt)
  sole_members (g.member k v ms) h = (
    sole_word k (key_formed k h.0),
    (refl, sole_joined (g.spelled v) (g.more_members ms) (sole_value v h.1) (sole_more_members ms h.2)),
  )

  sole_more_members : (ms : g.Members) → g.AreFormedMembers ms → AreSole (g.more_members ms)
  sole_more_members g.no_members h = (refl, tt)
  sole_more_members (g.member k v ms) h = (
    refl,
    (
      sole_word k (key_formed k h.0),
      (refl, sole_joined (g.spelled v) (g.more_members ms) (sole_value v h.1) (sole_more_members ms h.2)),
    ),
  )

-- the lexeme of its piece
sole_piece : (s e : List ℕ) → lexeme_of s ≡ s → lexeme_of (if opens s then s ++ e else s) ≡ s
sole_piece s e h = by (cases_Bool (opens s))
  where
    by : (opens s ≡ true) ⊎ (opens s ≡ false) → lexeme_of (if opens s then s ++ e else s) ≡ s
    by (inl o) =
        let one : head s ∷ [] ≡ s = (λ i. if sym o i then head s ∷ [] else s) ∙ h in
        let again : lexeme_of ((head s ∷ []) ++ e) ≡ head s ∷ [] = (λ i. if o i then head s ∷ [] else head s ∷ e) in
        (λ i. lexeme_of (if o i then s ++ e else s))
        ∙ ap (λ (t : List ℕ). lexeme_of (t ++ e)) (sym one)
        ∙ again ∙ one
    by (inr o) = (λ i. lexeme_of (if o i then s ++ e else s)) ∙ h

lexemes_same : (c : Bool) (ps : List Spaced) → AreSole (lexemes_of ps) → lexemes_of_pieces (pieces_of c ps) ≡ lexemes_of ps
lexemes_same c [] h = refl
lexemes_same c (p ∷ ps) h =
    let first = sole_piece p.lexeme (line_end_if (is_kept c ps)) h.0 in
    let later = lexemes_same c ps h.1 in
    λ i. first i ∷ later i

-- the lexemes of the pieces of a text are those of the text
pub pieces_lexemes : (style : Style) (text : List ℕ) (j : Json) → document text ≡ Some j
    → lexemes_of_pieces (text_pieces style text) ≡ lexemes text
pieces_lexemes style text j is =
    let h = spell_document text j is in
    let same = spaced_are_lexemes text in
    lexemes_same style.compact (spaced_lexemes text) (subst AreSole (sym (same ∙ h.spells)) (sole_value h.value h.formed)) ∙ same

-- and on compact lines the pieces themselves
pub compact_pieces : (ps : List Spaced) → pieces_of true ps ≡ lexemes_of ps
compact_pieces [] = refl
compact_pieces (p ∷ ps) = by (cases_Bool (opens p.lexeme)) (compact_pieces ps)
  where
    by : (opens p.lexeme ≡ true) ⊎ (opens p.lexeme ≡ false) → pieces_of true ps ≡ lexemes_of ps
        → pieces_of true (p ∷ ps) ≡ lexemes_of (p ∷ ps)
    by (inl o) later =
        let first : piece true p.lexeme ps ≡ p.lexeme = (λ i. if o i then p.lexeme ++ [] else p.lexeme) ∙ append-nil p.lexeme in
        λ i. first i ∷ later i
    by (inr o) later =
        ap (λ (t : List ℕ). t ∷ pieces_of true ps) (plain_piece true p.lexeme ps o)
        ∙ ap (λ (l : List (List ℕ)). p.lexeme ∷ l) later

-- ---- what comes after brackets

-- after a bracket comes no comma and no colon
abbrev pub AreOrdered : List (List ℕ) → Type 0
AreOrdered [] = ⊤
AreOrdered (s ∷ ss) = (opens s ≡ true → next_is is_mark ss ≡ false) × AreOrdered ss

-- these before others
abbrev Orders : List (List ℕ) → Type 0
Orders xs = (ys : List (List ℕ)) → AreOrdered ys → AreOrdered (xs ++ ys)

both_order : (xs ys : List (List ℕ)) → Orders xs → Orders ys → Orders (xs ++ ys)
both_order xs ys h k = λ zs o. subst AreOrdered (sym (append_assoc xs ys zs)) (h (ys ++ zs) (k zs o))

-- one that is no bracket
one_orders : (s : List ℕ) (xs : List (List ℕ)) → opens s ≡ false → Orders xs → Orders (s ∷ xs)
one_orders s xs e h = λ ys o. (λ opening. absurd (no_yes (sym e ∙ opening)), h ys o)
  where
    no_yes : false ≡ true → ⊥
    no_yes e = absurd (cc)

none_order : Orders []
none_order = λ ys o. o

-- what comes first in a list
first_item : (vs : Items) → AreFormedItems vs → (ys : List (List ℕ)) → next_is is_mark (spelled_items vs ++ ys) ≡ false
first_item no_items h ys = refl
first_item (item (alone s) vs) h ys = (formed_plain s h.0).mark
first_item (item (array keeps ws) vs) h ys = refl
first_item (item (object keeps ms) vs) h ys = refl

first_member : (ms : Members) → AreFormedMembers ms → (ys : List (List ℕ)) → next_is is_mark (spelled_members ms ++ ys) ≡ false
first_member no_members h ys = refl
first_member (member k v ms) h ys = (formed_plain k (key_formed k h.0)).mark

mutual
  value_orders : (v : Value) → IsFormed v → Orders (spelled v)
  value_orders (alone s) h = one_orders s [] (word_opens s h) none_order
  value_orders (array keeps vs) h = λ ys o. (λ opening. first_item vs h ys, items_order vs h ys o)
  value_orders (object keeps ms) h = λ ys o. (λ opening. first_member ms h ys, members_order ms h ys o)

  items_order : (vs : Items) → AreFormedItems vs → Orders (spelled_items vs)
  items_order no_items h = one_orders (93 ∷ []) [] refl none_order
  items_order (item v vs) h = both_order (spelled v) (more_items vs) (value_orders v h.0) (more_order vs h.1)

  more_order : (vs : Items) → AreFormedItems vs → Orders (more_items vs)
  more_order no_items h = one_orders (93 ∷ []) [] refl none_order
  more_order (item v vs) h =
      one_orders (44 ∷ []) (spelled v ++ more_items vs) refl
      (both_order (spelled v) (more_items vs) (value_orders v h.0) (more_order vs h.1))

  members_order : (ms : Members) → AreFormedMembers ms → Orders (spelled_members ms)
  members_order no_members h = one_orders (125 ∷ []) [] refl none_order
  members_order (member k v ms) h =
      one_orders k ((58 ∷ []) ∷ (spelled v ++ more_members ms)) (word_opens k (key_formed k h.0))
      (one_orders (58 ∷ []) (spelled v ++ more_members ms) refl
      (both_order (spelled v) (more_members ms) (value_orders v h.1) (more_members_order ms h.2)))

  more_members_order : (ms : Members) → AreFormedMembers ms → Orders (more_members ms)
  more_members_order no_members h = one_orders (125 ∷ []) [] refl none_order
  more_members_order (member k v ms) h =
      one_orders (44 ∷ []) (k ∷ (58 ∷ []) ∷ (spelled v ++ more_members ms)) refl
      (one_orders k ((58 ∷ []) ∷ (spelled v ++ more_members ms)) (word_opens k (key_formed k h.0))
      (one_orders (58 ∷ []) (spelled v ++ more_members ms) refl
      (both_order (spelled v) (more_members ms) (value_orders v h.1) (more_members_order ms h.2))))

pub pieces_ordered : (style : Style) (text : List ℕ) (j : Json) → document text ≡ Some j → AreOrdered (text_pieces style text)
pieces_ordered style text j is =
    let v = spell_pieces style text j is in
    subst AreOrdered (sym (v.spells ∙ sym (append-nil (spelled v.value)))) (value_orders v.value v.formed [] tt)
