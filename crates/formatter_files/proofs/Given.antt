-- The texts of the options that take a number, where a parse succeeds.
use Rattle.std.proofs.Common.{◌≡◌, ◌⊎◌, ◌∙◌, ◌<◌, refl, sym, ap, subst, zero, suc, ℕ, Bool, true, false, not, ◌&&◌, List, [], ◌∷◌}
use Rattle.std.proofs.Common.{◌++◌, length, map, Option, Some, None, inl, inr, arith, codes}
use Rattle.std.specs.List.{All, list_all, slice_index_or}
use Rattle.std.specs.Prelude.{option_map, slice_get, slice_index, unwrap_or}
use Rattle.std.specs.Borrow.{Bor}
use Rattle.std.specs.Str.{bytes_eq}
use Rattle.std.proofs.lemmas.Bool.{and_parts, cases_lt, eqb-true}
use Rattle.std.proofs.lemmas.List.{get_or-map, length-map, nil_from_length}
use Rattle.std.proofs.lemmas.List.Elements.{All-get_or}
use Rattle.std.proofs.lemmas.Slice.Eq.{bytes_eq-Decides}
use Rattle.clap.proofs.CallerLemmas.{entry_by_id}
use Rattle.clap.specs.Built.{IsAuto, IsParsedFrom, NamesNoGroup, SameRules}
use Rattle.clap.specs.Facts.{Entry, EntryPasses, HasReading, PassesArg, ValuesPass, args_of, groups_of, parser_of_value}
use Rattle.clap.specs.Matches.{found_of, matched_of, one_text}
use Rattle.clap.specs.Simple.{App, app_of, has_plain_fields}
use Rattle.clap.specs.Values.{Accepts, read_as, reading_of}
use Rattle.clap.proofs.WalkLemmas.{one_text-rows}
use Rattle.clap.specs.Walk.{Rule, Text, is_empty, is_simple_arg, one_of, rows_of, rule_of}
use Rattle.clap.specs.declared.builder.value_parser.Reading.{Reading}
use Rattle.clap.specs.declared.builder.value_parser.Reading.TheVariants.{AsWritten}
use Rattle.clap.specs.declared.builder.arg.Arg.{Arg}
use Rattle.clap.specs.declared.builder.command.Command.{Command}
use Rattle.clap.specs.declared.builder.command.Command.TheViews.{out-Command}
use Rattle.clap.specs.declared.builder.value_parser.ValueParser.{ValueParser}
use Rattle.clap.specs.declared.builder.value_parser.ValueParser.TheVariants.{Unsigned}
use Rattle.clap.specs.declared.parser.matches.ArgMatches.{ArgMatches}
use Rattle.clap.specs.declared.parser.matches.MatchedArg.{MatchedArg}
use Rattle.formatter_files.specs.Words.{IsNumberUpTo, most_32, most_64, number_rule, with_letter}

is_not : (b : Bool) → not b ≡ true → b ≡ false
is_not true e = cc
is_not false e = refl

empty_nil : {X : Type 0} (xs : List X) → is_empty xs ≡ true → xs ≡ []
empty_nil xs e = nil_from_length xs (eqb-true (length xs) 0 e)

-- an element of a list whose elements all pass
passes_at : {X : Type 0} (p : X → Bool) (xs : List X) (k : ℕ) (d : X) → list_all p xs ≡ true → k < length xs →
    p (slice_index_or xs k d) ≡ true
passes_at p [] k d e lt = absurd (omega arith)
passes_at p (x ∷ xs) zero d e lt = (and_parts (p x) (list_all p xs) e).0
passes_at p (x ∷ xs) (suc k) d e lt = passes_at p xs k d (and_parts (p x) (list_all p xs) e).1 (omega arith)

-- texts that begin with other bytes differ
differ : (a b : Text) → a ≡ b → (slice_index a 0 ≡ slice_index b 0 → ⊥) → ⊥
differ a b same other = other (ap (λ (t : Text). slice_index t 0) same)

-- an option that is neither of those that take a number
abbrev pub is_other : Rule → Bool
is_other r = not (bytes_eq r.id (codes "width")) && not (bytes_eq r.id (codes "indent"))

-- A program whose first options are those that take a number.
pub record TakesNumbers (app : App) : Type 0 where
  pub others : List Rule
  pub rules : app.top.rules ≡ number_rule (codes "width") most_64 ∷ with_letter 105 (number_rule (codes "indent") most_32) ∷ others
  pub differ : list_all is_other others ≡ true
  pub plain : app.top.is_plain ≡ true
  pub simple : list_all (λ (r : Rule). r.is_simple) app.top.rules ≡ true

-- the option with this id takes a number
abbrev pub IsOnly : List Rule → Text → ℕ → Type 0
IsOnly rules id most = (k : ℕ) (r : Rule) → k < length rules → bytes_eq (slice_index_or rules k r).id id ≡ true
    → ((slice_index_or rules k r).parser ≡ Some (Unsigned 0 most)) × ((slice_index_or rules k r).ignore_case ≡ false)

abbrev with_numbers : List Rule → List Rule
with_numbers others = number_rule (codes "width") most_64 ∷ with_letter 105 (number_rule (codes "indent") most_32) ∷ others

is_none : (b : Bool) → not b ≡ true → b ≡ true → ⊥
is_none true e h = cc
is_none false e h = cc

-- it does where the others have other ids
module _ (id : Text) (most : ℕ) (rule : Rule) (takes : (rule.parser ≡ Some (Unsigned 0 most)) × (rule.ignore_case ≡ false)) where
  abbrev pub has_other_id : Rule → Bool
  has_other_id r = not (bytes_eq r.id id)

  pub only_one : (before after : List Rule) → list_all has_other_id before ≡ true → list_all has_other_id after ≡ true
      → IsOnly (before ++ (rule ∷ after)) id most
  only_one [] after b a zero r lt e = takes
  only_one [] after b a (suc k) r lt e = absurd (is_none _ (passes_at has_other_id after k r a (omega arith)) e)
  only_one (x ∷ before) after b a zero r lt e = absurd (is_none _ (and_parts _ _ b).0 e)
  only_one (x ∷ before) after b a (suc k) r lt e = only_one before after (and_parts _ _ b).1 a k r (omega arith) e

module _ (others : List Rule) (all : list_all is_other others ≡ true) where
  only_width : IsOnly (with_numbers others) (codes "width") most_64
  only_width zero r lt e = (refl, refl)
  only_width (suc zero) r lt e = cc
  only_width (suc (suc k)) r lt e = absurd (is_none _ (and_parts _ _ (passes_at is_other others k r all (omega arith))).0 e)

  only_indent : IsOnly (with_numbers others) (codes "indent") most_32
  only_indent zero r lt e = cc
  only_indent (suc zero) r lt e = (refl, refl)
  only_indent (suc (suc k)) r lt e = absurd (is_none _ (and_parts _ _ (passes_at is_other others k r all (omega arith))).1 e)

-- A program whose options are simple.
pub record IsSimpleProgram (app : App) : Type 0 where
  pub plain : app.top.is_plain ≡ true
  pub simple : list_all (λ (r : Rule). r.is_simple) app.top.rules ≡ true

module _ (app : App) (simply : IsSimpleProgram app) (old : Command) (m : ArgMatches) (p : IsParsedFrom old m) (is : app_of old ≡ app) where
  abbrev rules : List Rule
  rules = app.top.rules

  rules_are : map rule_of (args_of old) ≡ rules
  rules_are = ap (λ (a : App). a.top.rules) is

  plain : has_plain_fields (out-Command old) ≡ true
  plain = ap (λ (a : App). a.top.is_plain) is ∙ simply.plain

  all_simple : list_all (λ (r : Rule). r.is_simple) rules ≡ true
  all_simple = simply.simple

  rule_at : (k : ℕ) (d : Arg) → k < length (args_of old) → rule_of (slice_index_or (args_of old) k d) ≡ slice_index_or rules k (rule_of d)
  rule_at k d lt = sym (get_or-map rule_of (args_of old) k d (rule_of d) lt)
      ∙ ap (λ (rs : List Rule). slice_index_or rs k (rule_of d)) rules_are

  within : (k : ℕ) → k < length (args_of old) → k < length rules
  within k lt =
      omega (arith, lt, length-map (args_of old) rule_of, ap length rules_are)

  simple_at : (k : ℕ) (d : Arg) → k < length (args_of old) → is_simple_arg (slice_index_or (args_of old) k d) ≡ true
  simple_at k d lt =
      ap (λ (r : Rule). r.is_simple) (rule_at k d lt) ∙ passes_at (λ (r : Rule). r.is_simple) rules k (rule_of d) all_simple (within k lt)

  no_groups : groups_of p.built ≡ []
  no_groups =
      let none = empty_nil (groups_of old) (and_parts _ _ plain).0 in
      let named : NamesNoGroup old = λ k d lt. empty_nil _ (and_parts _ _ (and_parts _ _ (and_parts _ _ (simple_at k d lt)).1).1).0 in
      (p.from.same_groups named).1 ∙ none

  values : ValuesPass p.built (found_of m)
  values =
      let globals = is_not _ (and_parts _ _ (and_parts _ _ (and_parts _ _ plain).1).1).0 in
      (p.parsed (p.from.globals ∙ globals)).values

  module _ (id : Text) (most : ℕ) (only : IsOnly rules id most) (own : (id ≡ codes "help") ⊎ (id ≡ codes "version") → ⊥)
      (named : id ≡ [] → ⊥) where
    -- an argument of the built command with this id has the parser
    parser_at : (k : ℕ) (a : Arg) → k < length (args_of p.built) → slice_index_or (args_of p.built) k a ≡ a → bytes_eq a.id.now id ≡ true
        → (a.value_parser ≡ Some (Unsigned 0 most)) × (a.ignore_case ≡ false)
    parser_at k a high at same = elim (cases_lt k (length (args_of old))) [
      | inl low ↦
          let s = subst (λ (w : Arg). SameRules (slice_index_or (args_of old) k a) w) at (p.from.kept k a low).1 in
          let rule = rule_at k a low in
          let same_old : bytes_eq (slice_index_or (args_of old) k a).id.now id ≡ true = rw (← s.id) same in
          let same_rule : bytes_eq (slice_index_or rules k (rule_of a)).id id ≡ true
          = subst (λ (r : Rule). bytes_eq r.id id ≡ true) rule same_old in
          let is_rule = only k (rule_of a) (within k low) same_rule in
          let parser_old = ap (λ (r : Rule). r.parser) rule ∙ is_rule.0 in
          (s.parser (Unsigned 0 most) parser_old, s.ignore_case ∙ (ap (λ (r : Rule). r.ignore_case) rule ∙ is_rule.1))
      | inr above ↦
          let auto = subst IsAuto at (p.from.extra k a above high) in
          let is_id : a.id.now ≡ id = (bytes_eq-Decides a.id.now id).0 same in
          absurd (own (elim auto [ inl h ↦ inl (sym is_id ∙ h) | inr h ↦ inr (sym is_id ∙ h) ]))
    ]

    accepted : (value : Text) → PassesArg p.built id value → Accepts false (Unsigned 0 most) value
    accepted value passes =
        let is_parser = parser_at passes.0 passes.1 passes.2 passes.3 passes.4.0 in
        let parser = ap (λ (q : Option ValueParser). parser_of_value q) is_parser.0 in
        subst (λ (b : Bool). Accepts b (Unsigned 0 most) value) is_parser.1
        (subst (λ (q : ValueParser). Accepts passes.1.ignore_case q value) parser passes.4.1)

    as_written : (r : Reading) → HasReading p.built id r → r ≡ AsWritten
    as_written r has =
        let is_parser = parser_at has.0 has.1 has.2 has.3 has.4.0 in
        sym has.4.1 ∙ ap (λ (q : Option ValueParser). reading_of (parser_of_value q)) is_parser.0

    no_group : (e : Entry) → e.0.now ≡ id → EntryPasses p.built e → e.1.is_group ≡ true → ⊥
    no_group e key passes group = elim (passes.3 group) [
      | inl empty ↦ named (sym key ∙ empty)
      | inr some ↦
          let bad : 0 < 0 = rw no_groups at some in
          absurd (omega arith)
    ]

    values_at : (e : Entry) → e.0.now ≡ id → EntryPasses p.built e → All (λ v. PassesArg p.built id v.now) e.1.vals.items
    values_at e key passes = elim passes.0 [
      | inl group ↦ absurd (no_group e key passes group)
      | inr all ↦ subst (λ (w : Text). All (λ v. PassesArg p.built w v.now) e.1.vals.items) key all
    ]

    reading_at : (e : Entry) → e.0.now ≡ id → EntryPasses p.built e → e.1.reading ≡ AsWritten
    reading_at e key passes = elim passes.4 [
      | inl group ↦ absurd (no_group e key passes group)
      | inr has ↦ as_written e.1.reading (subst (λ (w : Text). HasReading p.built w e.1.reading) key has)
    ]

    first_at : (reading : Reading) (values : List (Bor Text)) (text : Text) → reading ≡ AsWritten →
        All (λ v. PassesArg p.built id v.now) values
        → option_map (λ s. read_as reading s.now) (slice_get values 0) ≡ Some text → Accepts false (Unsigned 0 most) text
    first_at reading [] text is_written all is_text = cc
    first_at reading (v ∷ vs) text is_written all is_text =
        let same : Some v.now ≡ Some text = rw is_written at is_text in
        let same_text : v.now ≡ text = ap (λ (o : Option Text). unwrap_or o text) same in
        subst (λ (t : Text). Accepts false (Unsigned 0 most) t) same_text
        (accepted v.now (All-get_or (λ w. PassesArg p.built id w.now) (v ∷ vs) 0 v (omega arith) all))

    entry_accepts : (x : MatchedArg) (text : Text) → matched_of (found_of m) id ≡ Some x →
        option_map (λ s. read_as x.reading s.now) (slice_get x.vals.items 0) ≡ Some text
        → Accepts false (Unsigned 0 most) text
    entry_accepts x text is_x is_text =
        let got = entry_by_id (EntryPasses p.built) (found_of m).entries.items id x values is_x in
        let key : got.0.0.now ≡ id = (bytes_eq-Decides got.0.0.now id).0 got.2 in
        first_at x.reading x.vals.items text
        (subst (λ (y : MatchedArg). y.reading ≡ AsWritten) got.1 (reading_at got.0 key got.3))
        (subst (λ (y : MatchedArg). All (λ v. PassesArg p.built id v.now) y.vals.items) got.1 (values_at got.0 key got.3))
        is_text

    text_accepted : (text : Text) → one_text (found_of m) id ≡ Some text → Accepts false (Unsigned 0 most) text
    text_accepted text is_text = go (matched_of (found_of m) id) refl is_text
      where
        go : (o : Option MatchedArg) → matched_of (found_of m) id ≡ o → one_text (found_of m) id ≡ Some text →
            Accepts false (Unsigned 0 most) text
        go None is h =
            let bad : None ≡ Some text = rw is at h in
            cc
        go (Some x) is h = entry_accepts x text is (rw is at h)

    -- a text that is given is a number
    given : (text : Option Text) → one_text (found_of m) id ≡ text → IsNumberUpTo most text
    given None is_text = tt
    given (Some text) is_text =
        let accepts = text_accepted text is_text in
        (accepts.0, accepts.3)

  -- an id that begins with another letter than what is added, and is not empty
  pub number_given : (id : Text) (most : ℕ) → IsOnly rules id most → (slice_index id 0 ≡ 104 → ⊥) → (slice_index id 0 ≡ 118 → ⊥)
      → (slice_index id 0 ≡ 0 → ⊥) → IsNumberUpTo most (one_of id (rows_of (found_of m)))
  number_given id most only help version named =
      given id most only (λ auto. elim auto [ inl h ↦ differ _ _ h help | inr h ↦ differ _ _ h version ]) (λ h. differ _ _ h named) _
      (one_text-rows (found_of m) id)

module _ (app : App) (takes : TakesNumbers app) (old : Command) (m : ArgMatches) (p : IsParsedFrom old m) (is : app_of old ≡ app) where
  simply : IsSimpleProgram app
  simply = record { plain = takes.plain; simple = takes.simple }

  pub width_given : IsNumberUpTo most_64 (one_of (codes "width") (rows_of (found_of m)))
  width_given =
      number_given app simply old m p is (codes "width") most_64
      (subst (λ (rs : List Rule). IsOnly rs (codes "width") most_64) (sym takes.rules) (only_width takes.others takes.differ))
      (λ e. omega (arith, e)) (λ e. omega (arith, e)) (λ e. omega (arith, e))

  pub indent_given : IsNumberUpTo most_32 (one_of (codes "indent") (rows_of (found_of m)))
  indent_given =
      number_given app simply old m p is (codes "indent") most_32
      (subst (λ (rs : List Rule). IsOnly rs (codes "indent") most_32) (sym takes.rules) (only_indent takes.others takes.differ))
      (λ e. omega (arith, e)) (λ e. omega (arith, e)) (λ e. omega (arith, e))
