-- The lexemes of what is written are its texts and line ends, where words side by side are one.
use Rattle.std.proofs.Common.{◌≡◌, refl, sym, ◌∙◌, ap, subst, ℕ, zero, suc, Bool, true, false, cond, not, List, [], ◌∷◌, ◌++◌, append_assoc}
use Rattle.std.proofs.Common.{inl, inr}
use Rattle.std.proofs.lemmas.List.Elements.{All-cons}
use Rattle.std.specs.Prelude.{Some, None}
use Rattle.prettyless_model.specs.Options.{ending}
use Rattle.prettyless_model.specs.Spaces.{spaces}
use Rattle.prettyless_model.specs.declared.options.LineEnding.{LineEnding}
use Rattle.prettyless_model.specs.declared.options.LineEnding.TheVariants.{Lf, Crlf}
use Rattle.prettyless_model.specs.declared.options.RenderOptions.{RenderOptions}
use Rattle.toml_lexemes.specs.Bytes.{ends_word, head, is_quote}
use Rattle.text_lexemes.specs.Languages.{between}
use Rattle.toml_lexemes.specs.Lexemes.{cut_toml}
use Rattle.toml_lexemes.specs.Shown.{IsWholeLexeme}
use Rattle.toml_lexemes.proofs.Gaps.{IsWellSpaced-lexemes, lexemes_alone}
use Rattle.toml_lexemes.proofs.Kept.{same_lexemes}
use Rattle.toml_lexemes.proofs.LineEnds.{cut-nil, cut_blank, cut_line_feed}
use Rattle.toml_lexemes.proofs.WholeLexemes.{word_is_whole}
use Rattle.toml_grammar.specs.Grammar.{Reading}
use Rattle.toml_grammar.specs.Sorts.{Sort, sort_of}
use Rattle.toml_documents.proofs.ReadTexts.{is_word, joined_from, lexeme_then}
use Rattle.prettyless_laws.specs.Bits.{AreWritten, Bit, end_of_line, text_of}
use Rattle.toml_documents.proofs.JoinedDocuments.{no_word_sort, word_sort_is}
use Rattle.toml_documents.proofs.JoinedLayouts.{lex_word}
use Rattle.toml_documents.proofs.LexemeFacts.{alone_is}
use Rattle.toml_grammar.specs.declared.next.Next.{Next}
use Rattle.toml_documents.proofs.Written.{BeginsAs, FollowsIf, MayEnd, Lex, MaySpace, MayTouch, Place, Runs, Stands, Touch, after}
use Rattle.toml_documents.proofs.Written.{after_space, at_line, begins_as, comment, follows, follows_line, fresh, head_front, lex_of, place}
use Rattle.toml_documents.proofs.Written.{sign, string, word, word_sort, words_alone}

-- ---- one lexeme in front of others

lexeme_front : (s rest : List ℕ) → IsWholeLexeme s → FollowsIf (lex_of (sort_of s)) rest
    → cut_toml between (s ++ rest) ≡ s ∷ cut_toml between rest
lexeme_front s rest whole f =
    same_lexemes (s ++ rest) (s ∷ cut_toml between rest)
    (All-cons (λ t. cut_toml between t ≡ t ∷ []) s (cut_toml between rest) whole.alone (lexemes_alone rest))
    ([], rest, tt, refl, follows s rest whole f, IsWellSpaced-lexemes rest)

front_as : (l : Lex) (s rest : List ℕ) → lex_of (sort_of s) ≡ l → IsWholeLexeme s → FollowsIf l rest
    → cut_toml between (s ++ rest) ≡ s ∷ cut_toml between rest
front_as l s rest e whole f = lexeme_front s rest whole (subst (λ (k : Lex). FollowsIf k rest) (sym e) f)

ending_cut : (l : LineEnding) (rest : List ℕ) → cut_toml between (ending l ++ rest) ≡ (10 ∷ []) ∷ cut_toml between rest
ending_cut Lf rest = cut_line_feed 10 rest refl
ending_cut Crlf rest = cut_blank 13 (10 ∷ rest) refl ∙ cut_line_feed 10 rest refl

spaces_cut : (n : ℕ) (rest : List ℕ) → cut_toml between (spaces n ++ rest) ≡ cut_toml between rest
spaces_cut zero rest = refl
spaces_cut (suc n) rest = cut_blank 32 (spaces n ++ rest) refl ∙ spaces_cut n rest

-- ---- where a text stands

-- the lexemes after this one, which is a word that may go on, or not
abbrev after_lexeme : Lex → List ℕ → List Bit → List (List ℕ)
after_lexeme word s bits = joined_from (Some s) bits
after_lexeme sign s bits = s ∷ joined_from None bits
after_lexeme comment s bits = s ∷ joined_from None bits
after_lexeme string s bits = s ∷ joined_from None bits

-- what is written is read as these texts, after any lexeme that is directly before it
abbrev IsLexed : Touch → List Bit → List ℕ → Type 0
IsLexed at_line bits bytes = cut_toml between bytes ≡ joined_from None bits
IsLexed after_space bits bytes = cut_toml between bytes ≡ joined_from None bits
IsLexed (after l) bits bytes =
    (s : List ℕ) → IsWholeLexeme s → lex_of (sort_of s) ≡ l → cut_toml between (s ++ bytes) ≡ after_lexeme l s bits

-- where what comes is no word that goes on
apart : (l : Lex) (s : List ℕ) (bits : List Bit) (ss : List (List ℕ)) → joined_from None bits ≡ ss
    → joined_from (Some s) bits ≡ s ∷ ss → s ∷ ss ≡ after_lexeme l s bits
apart word s bits ss e f = sym f
apart sign s bits ss e f = ap (λ (l : List (List ℕ)). s ∷ l) (sym e)
apart comment s bits ss e f = ap (λ (l : List (List ℕ)). s ∷ l) (sym e)
apart string s bits ss e f = ap (λ (l : List (List ℕ)). s ∷ l) (sym e)

end_lexed : (t : Touch) → t ≡ at_line → (bytes : List ℕ) → bytes ≡ [] → IsLexed t [] bytes
end_lexed t e bytes none =
    subst (λ (u : Touch). IsLexed u [] bytes) (sym e) (ap (cut_toml between) none ∙ cut-nil)

line_lexed : (t : Touch) (l : LineEnding) (bits : List Bit) (rest : List ℕ) → MayEnd t → cut_toml between rest ≡ joined_from None bits
    → IsLexed t (end_of_line ∷ bits) (ending l ++ rest)
line_lexed at_line l bits rest may h = ending_cut l rest ∙ ap (λ (ss : List (List ℕ)). (10 ∷ []) ∷ ss) h
line_lexed after_space l bits rest may h = absurd may
line_lexed (after k) l bits rest may h = λ s whole e.
    front_as k s (ending l ++ rest) e whole (follows_line k l rest)
    ∙ ap (λ (ss : List (List ℕ)). s ∷ ss) (ending_cut l rest ∙ ap (λ (ss : List (List ℕ)). (10 ∷ []) ∷ ss) h)
    ∙ apart k s (end_of_line ∷ bits) ((10 ∷ []) ∷ joined_from None bits) refl refl

space_follows : (k : Lex) (rest : List ℕ) → MaySpace (after k) → FollowsIf k (32 ∷ rest)
space_follows sign rest may = tt
space_follows comment rest may = absurd may
space_follows string rest may = refl
space_follows word rest may = refl

space_lexed : (k : Lex) (bits : List Bit) (rest : List ℕ) → MaySpace (after k) → cut_toml between rest ≡ joined_from None bits
    → IsLexed (after k) (text_of (32 ∷ []) ∷ bits) (32 ∷ rest)
space_lexed k bits rest may h s whole e =
    front_as k s (32 ∷ rest) e whole (space_follows k rest may)
    ∙ ap (λ (ss : List (List ℕ)). s ∷ ss) (cut_blank 32 rest refl ∙ h)
    ∙ apart k s (text_of (32 ∷ []) ∷ bits) (joined_from None bits) refl refl

-- ---- texts

module _ (s : List ℕ) (bits : List Bit) (whole : IsWholeLexeme s) where
  not_letter : (k : Lex) → lex_of (sort_of s) ≡ k → is_word s ≡ false → s ∷ joined_from None bits ≡ after_lexeme k s bits
  not_letter word e none = absurd (no_word_sort s whole none (lex_word (sort_of s) e))
  not_letter sign e none = refl
  not_letter comment e none = refl
  not_letter string e none = refl

  -- where nothing is directly before it
  begins_joined : (w : Bool) → is_word s ≡ w → after_lexeme (lex_of (sort_of s)) s bits
      ≡ cond w (joined_from (Some s) bits) (lexeme_then s (joined_from None bits))
  begins_joined true e = ap (λ (k : Sort). after_lexeme (lex_of k) s bits) (word_sort_is s whole e)
  begins_joined false e =
      sym (not_letter (lex_of (sort_of s)) refl e) ∙ sym (alone_is s whole.alone (joined_from None bits))

  -- where a lexeme is directly before it that it does not go on
  stops_joined : (t : List ℕ) → is_word s ≡ false → joined_from (Some t) (text_of s ∷ bits) ≡ t ∷ joined_from None (text_of s ∷ bits)
  stops_joined t e =
      ap (λ (w : Bool). cond w (joined_from (Some (t ++ s)) bits) (t ∷ lexeme_then s (joined_from None bits))) e
      ∙ ap (λ (ss : List (List ℕ)). t ∷ ss)
      (sym (ap (λ (w : Bool). cond w (joined_from (Some s) bits) (lexeme_then s (joined_from None bits))) e))

  goes_joined : (t : List ℕ) → is_word s ≡ true → joined_from (Some t) (text_of s ∷ bits) ≡ joined_from (Some (t ++ s)) bits
  goes_joined t e = ap (λ (w : Bool). cond w (joined_from (Some (t ++ s)) bits) (t ∷ lexeme_then s (joined_from None bits))) e

module _ (s : List ℕ) (bits : List Bit) (rest : List ℕ) (whole : IsWholeLexeme s)
    (later : IsLexed (after (lex_of (sort_of s))) bits rest) where
  here : cut_toml between (s ++ rest) ≡ joined_from None (text_of s ∷ bits)
  here = later s whole refl ∙ begins_joined s bits whole (is_word s) refl

  beside : (n : Next) (t : List ℕ) → IsWholeLexeme t → (l : Lex) → lex_of (sort_of t) ≡ l → MayTouch (after l) n s
      → cut_toml between (t ++ (s ++ rest)) ≡ after_lexeme l t (text_of s ∷ bits)
  beside n t is sign e may = front_as sign t (s ++ rest) e is tt ∙ ap (λ (ss : List (List ℕ)). t ∷ ss) here
  beside n t is comment e may = absurd may
  beside n t is string e may =
      front_as string t (s ++ rest) e is (ap is_quote (head_front s rest whole) ∙ may) ∙ ap (λ (ss : List (List ℕ)). t ∷ ss) here
  beside n t is word e (inl may) =
      front_as word t (s ++ rest) e is (ap ends_word (head_front s rest whole) ∙ may) ∙ ap (λ (ss : List (List ℕ)). t ∷ ss) here
      ∙ sym (stops_joined s bits whole t (ap not may))
  beside n t is word e (inr (key, letter)) =
      let begins : ends_word (head t) ≡ false = subst (λ (k : Lex). BeginsAs k t) e (begins_as t is) in
      let both = words_alone t s is.alone begins whole.alone letter in
      let sorts = word_sort s whole.alone letter in
      let same : lex_of (sort_of (t ++ s)) ≡ lex_of (sort_of s) = ap lex_of (word_sort (t ++ s) both.0 both.1 ∙ sym sorts) in
      ap (cut_toml between) (sym (append_assoc t s rest)) ∙ later (t ++ s) (word_is_whole (t ++ s) both.0 both.1) same
      ∙ ap (λ (k : Sort). after_lexeme (lex_of k) (t ++ s) bits) sorts ∙ sym (goes_joined s bits whole t (ap not letter))

-- ---- all of them

module _ (o : RenderOptions) (b : Place) (line : b.touch ≡ at_line) where
  text_lexed : (t : Touch) (r : Reading) (s : List ℕ) (c : Place) (bits : List Bit) (bytes : List ℕ) → Stands (place t r) s c
      → ((rest : List ℕ) → AreWritten o false bits rest → IsLexed (after (lex_of (sort_of s))) bits rest)
      → AreWritten o (fresh t) (text_of s ∷ bits) bytes → IsLexed t (text_of s ∷ bits) bytes
  text_lexed at_line r s c bits bytes st more (n, rest, e, w) =
      ap (cut_toml between) e ∙ spaces_cut n (s ++ rest) ∙ here s bits rest st.whole (more rest w)
  text_lexed after_space r s c bits bytes st more (rest, e, w) = ap (cut_toml between) e ∙ here s bits rest st.whole (more rest w)
  text_lexed (after l) r s c bits bytes st more (rest, e, w) = λ t is lex.
      ap (λ (u : List ℕ). cut_toml between (t ++ u)) e ∙ beside s bits rest st.whole (more rest w) r.next t is l lex st.touches

  spaced_lexed : (t : Touch) (s : List ℕ) (bits : List Bit) (bytes : List ℕ) → s ≡ 32 ∷ [] → MaySpace t
      → ((rest : List ℕ) → AreWritten o false bits rest → cut_toml between rest ≡ joined_from None bits)
      → AreWritten o (fresh t) (text_of s ∷ bits) bytes → IsLexed t (text_of s ∷ bits) bytes
  spaced_lexed at_line s bits bytes is may more w = absurd may
  spaced_lexed after_space s bits bytes is may more w = absurd may
  spaced_lexed (after k) s bits bytes is may more (rest, e, w) =
      subst (IsLexed (after k) (text_of s ∷ bits)) (sym (e ∙ ap (λ (u : List ℕ). u ++ rest) is))
      (subst (λ (u : List ℕ). IsLexed (after k) (text_of u ∷ bits) (32 ∷ rest)) (sym is) (space_lexed k bits rest may (more rest w)))

  pub lexed : (bits : List Bit) (t : Touch) (r : Reading) (bytes : List ℕ) → Runs (place t r) bits b → AreWritten o (fresh t) bits bytes
      → IsLexed t bits bytes
  lexed [] t r bytes runs w = end_lexed t (ap (λ (q : Place). q.touch) runs ∙ line) bytes w
  lexed (end_of_line ∷ bits) t r bytes (u, may, ends, runs) (rest, e, w) =
      subst (IsLexed t (end_of_line ∷ bits)) (sym e) (line_lexed t o.line_ending bits rest may (lexed bits at_line u rest runs w))
  lexed (text_of s ∷ bits) t r bytes (c, inl space, runs) w =
      spaced_lexed t s bits bytes space.space space.may
      (λ rest v. lexed bits after_space r rest (subst (λ (q : Place). Runs q bits b) space.place runs) v) w
  lexed (text_of s ∷ bits) t r bytes (c, inr st, runs) w =
      text_lexed t r s c bits bytes st
      (λ rest v.
      lexed bits (after (lex_of (sort_of s))) c.reading rest (subst (λ (u : Touch). Runs (place u c.reading) bits b) st.touch runs) v) w

  -- the lexemes of what is written
  pub lexemes_written : (bits : List Bit) (r : Reading) (bytes : List ℕ) → Runs (place at_line r) bits b → AreWritten o true bits bytes
      → cut_toml between bytes ≡ joined_from None bits
  lexemes_written bits r bytes runs w = lexed bits at_line r bytes runs w
