-- The document of the lexemes of a layout is laid like that of its texts, where words side by side are apart.
use Rattle.std.proofs.Common.{◌≡◌, refl, sym, ◌∙◌, ap, subst, ℕ, Bool, true, false, cond, ◌==◌, ◌||◌, List, [], ◌∷◌, ◌++◌}
use Rattle.std.proofs.Common.{inl, inr, Result, Ok}
use Rattle.std.proofs.lemmas.Bool.{true≢false}
use Rattle.std.specs.Prelude.{◌⊎◌, Option, Some, None}
use Rattle.prettyless_trees.specs.Built.{append}
use Rattle.prettyless_model.specs.Tree.{Tree, Nil}
use Rattle.toml_lexemes.specs.Bytes.{dot, ends_with_dot, ends_word, head}
use Rattle.toml_lexemes.specs.Shown.{IsWholeLexeme}
use Rattle.toml_lexemes.proofs.LineEnds.{cut-nil, cut_line_feed}
use Rattle.toml_lexemes.proofs.WholeLexemes.{no_lexeme}
use Rattle.toml_grammar.specs.Grammar.{Reading, first_reading, innermost, open_array_turn, sort_turn, turned}
use Rattle.toml_grammar.specs.Sorts as sort
use Rattle.toml_grammar.specs.Sorts.{Sort, sort_of}
use Rattle.toml_grammar.specs.declared.expected.Expected.{Expected}
use Rattle.toml_grammar.specs.declared.next.Bracket.{Bracket}
use Rattle.toml_grammar.specs.declared.next.Bracket.TheVariants as bracket
use Rattle.toml_grammar.specs.declared.next.Next.{Next}
use Rattle.toml_grammar.specs.declared.next.Next.TheVariants as next
use Rattle.toml_grammar.specs.declared.turn.LexemeTurn.TheVariants as turn
use Rattle.toml_documents.specs.Documents.{Draft, Level, document_from, draft_with, entry_with_comma, level_end, level_with_comma}
use Rattle.toml_documents.specs.Documents.{levels_after, ended_in, toml_document, levels_closed, list_tree, with_comment, lexeme_tree}
use Rattle.toml_documents.specs.Documents.{new_statement, no_draft, separated, with_ended_line, with_part}
use Rattle.toml_documents.specs.Gaps.{gap_before_part, gap_before_text}
use Rattle.toml_documents.specs.Kinds.{array_in, last_after_sort, last_after_text}
use Rattle.toml_documents.specs.Numbers.{only_number_words, opened_kind}
use Rattle.toml_documents.proofs.ReadTexts.{is_word, joined_from, lexeme_then, lexemes_then, with_word, word_then}
use Rattle.prettyless_laws.specs.Bits.{Bit, end_of_line, text_of, word_bits}
use Rattle.toml_documents.specs.declared.gaps.Gap.{Gap}
use Rattle.toml_documents.specs.declared.gaps.Gap.TheVariants as gap
use Rattle.toml_documents.specs.declared.kind.Kind.{Kind}
use Rattle.toml_documents.specs.declared.kind.Kind.TheVariants.{Header}
use Rattle.toml_documents.specs.declared.kind.Last.{Last}
use Rattle.toml_documents.specs.declared.style.Style.{Style}
use Rattle.toml_documents.proofs.AlikeDrafts.{Alike, AreBrackets, AreTwins, DraftsAlike, IsTwin, OpensSame, alike_same, ended_alike}
use Rattle.toml_documents.proofs.AlikeDrafts.{level_alike, same_kind, same_opening, text_end_alike, twin_part, twin_same, twins_after}
use Rattle.toml_documents.proofs.JoinedDocuments.{ends_both, no_word_sort, IsInArray, IsKeyDue, both_due, innermost_more, line_none}
use Rattle.toml_documents.proofs.JoinedDocuments.{numbers_joined, plain_after, plain_before, space_none, stands_turn, word_due, word_letter}
use Rattle.toml_documents.proofs.JoinedDocuments.{word_sort_is, words_meet_at}
use Rattle.toml_documents.proofs.LexemeFacts.{AreLexemes, EndsFirst, IsAlone, alone_is}
use Rattle.toml_documents.proofs.OrderlyTexts.{AreCalm, AreOpened, Fits, WhereRead, idle_calm, steps}
use Rattle.toml_documents.proofs.ReadLists.{kind_before_is, kind_with}
use Rattle.toml_documents.proofs.ReadRows.{row}
use Rattle.toml_documents.proofs.ReadSteps.{IsLexeme, from_lexeme}
use Rattle.toml_documents.proofs.TreesAgain.{IsPlainWord, again_joined_words}
use Rattle.toml_documents.proofs.Written.{MaySpace, IsKey, MayTouch, Place, Runs, Stands, Touch, after, after_space, at_line, comment}
use Rattle.toml_documents.proofs.Written.{lex_of, place, same_reading, word}

-- ---- lexemes of texts

feed_alone : IsAlone (10 ∷ [])
feed_alone = cut_line_feed 10 [] refl ∙ ap (λ (l : List (List ℕ)). (10 ∷ []) ∷ l) cut-nil

-- after a comment a line ends
run_ends : (bits : List Bit) (a b : Place) → a.touch ≡ after comment → Runs a bits b → EndsFirst (lexemes_then bits [])
run_ends [] a b t runs = tt
run_ends (end_of_line ∷ bits) a b t runs = refl
run_ends (text_of s ∷ bits) a b t (c, inl space, runs) = absurd (subst MaySpace t space.may)
run_ends (text_of s ∷ bits) a b t (c, inr st, runs) = absurd (subst (λ (k : Touch). MayTouch k a.reading.next s) t st.touches)

comment_touch : (c : Place) (s : List ℕ) → c.touch ≡ after (lex_of (sort_of s)) → sort_of s ≡ sort.comment → c.touch ≡ after comment
comment_touch c s t e = t ∙ ap (λ (k : Sort). after (lex_of k)) e

lexemes_of_run : (bits : List Bit) (a b : Place) → Runs a bits b → AreLexemes (lexemes_then bits [])
lexemes_of_run [] a b runs = tt
lexemes_of_run (end_of_line ∷ bits) a b (r, may, ends, runs) =
    (feed_alone, λ e. absurd (cc), lexemes_of_run bits (place at_line r) b runs)
lexemes_of_run (text_of s ∷ bits) a b (c, inl space, runs) =
    subst (λ (u : List ℕ). AreLexemes (lexeme_then u (lexemes_then bits []))) (sym space.space) (lexemes_of_run bits c b runs)
lexemes_of_run (text_of s ∷ bits) a b (c, inr st, runs) =
    subst AreLexemes (sym (alone_is s st.whole.alone (lexemes_then bits [])))
    (st.whole.alone, λ e. run_ends bits c b (comment_touch c s st.touch e) runs, lexemes_of_run bits c b runs)

-- ---- where the words stand

-- the levels fit the grammar there, and what comes
record IsStage (a : Place) (bits : List Bit) (levels : List Level) : Type 0 where
  fits : Fits a.reading.next a.reading.open_brackets levels
  opened : AreOpened levels
  calm : AreCalm levels ⊎ EndsFirst (lexemes_then bits [])
  brackets : AreBrackets levels

comma_brackets : (b : Bool) (lv : Level) → (entry_with_comma b lv).opening ≡ lv.opening
comma_brackets true lv = refl
comma_brackets false lv = refl

module _ (style : Style) where
  same_brackets : (lv new : Level) (lvs : List Level) → new.opening ≡ lv.opening → AreBrackets (lv ∷ lvs) → AreBrackets (new ∷ lvs)
  same_brackets lv new [] e h = tt
  same_brackets lv new (outer ∷ lvs) e h = (subst IsLexeme (sym e) h.0, h.1)

  closed_brackets : (lv : Level) (lvs : List Level) (s : List ℕ) → AreBrackets (lv ∷ lvs) → AreBrackets (levels_closed style lv lvs s)
  closed_brackets lv [] s h = tt
  closed_brackets lv (outer ∷ lvs) s h = same_brackets outer (with_part outer lv.opening (list_tree style lv s)) lvs refl h.1

  brackets_with : (k : Sort) (lv : Level) (lvs : List Level) (s : List ℕ) (rest : List (List ℕ)) → IsLexeme s → AreBrackets (lv ∷ lvs)
      → AreBrackets (levels_after style k (lv ∷ lvs) s rest)
  brackets_with sort.open_array lv lvs s rest e h = (e, h)
  brackets_with sort.open_table lv lvs s rest e h = (e, h)
  brackets_with sort.close_array lv lvs s rest e h = closed_brackets lv lvs s h
  brackets_with sort.close_table lv lvs s rest e h = closed_brackets lv lvs s h
  brackets_with sort.comma lv lvs s rest e h = same_brackets lv (level_with_comma lv) lvs (comma_brackets _ lv) h
  brackets_with sort.comment lv lvs s rest e h = same_brackets lv (with_comment lv s) lvs refl h
  brackets_with k lv lvs s rest e h = same_brackets lv (with_part lv s (lexeme_tree s)) lvs refl h

  brackets_first : (k : Sort) (s : List ℕ) (rest : List (List ℕ)) → IsLexeme s → AreBrackets (levels_after style k [] s rest)
  brackets_first sort.open_array s rest e = (e, tt)
  brackets_first sort.open_table s rest e = (e, tt)
  brackets_first sort.close_array s rest e = tt
  brackets_first sort.close_table s rest e = tt
  brackets_first sort.comma s rest e = tt
  brackets_first sort.comment s rest e = tt
  brackets_first k s rest e = tt

  brackets_after : (k : Sort) (levels : List Level) (s : List ℕ) (rest : List (List ℕ)) → IsLexeme s → AreBrackets levels
      → AreBrackets (levels_after style k levels s rest)
  brackets_after k [] s rest e h = brackets_first k s rest e
  brackets_after k (lv ∷ lvs) s rest e h = brackets_with k lv lvs s rest e h

  brackets_ended : (d : Draft) (levels : List Level) → AreBrackets levels → AreBrackets (with_ended_line d levels).levels
  brackets_ended d [] h = tt
  brackets_ended d (lv ∷ []) h = tt
  brackets_ended d (lv ∷ outer ∷ lvs) h = h

  brackets_draft : (k : Sort) (d : Draft) (s : List ℕ) (rest : List (List ℕ)) → IsLexeme s → AreBrackets d.levels
      → AreBrackets (draft_with style k d s rest).levels
  brackets_draft sort.line_end d s rest e h = brackets_ended d d.levels h
  brackets_draft sort.open_array d s rest e h = brackets_after sort.open_array d.levels s rest e h
  brackets_draft sort.open_table d s rest e h = brackets_after sort.open_table d.levels s rest e h
  brackets_draft sort.close_array d s rest e h = brackets_after sort.close_array d.levels s rest e h
  brackets_draft sort.close_table d s rest e h = brackets_after sort.close_table d.levels s rest e h
  brackets_draft sort.comma d s rest e h = brackets_after sort.comma d.levels s rest e h
  brackets_draft sort.equals d s rest e h = brackets_after sort.equals d.levels s rest e h
  brackets_draft sort.comment d s rest e h = brackets_after sort.comment d.levels s rest e h
  brackets_draft sort.string d s rest e h = brackets_after sort.string d.levels s rest e h
  brackets_draft sort.word d s rest e h = brackets_after sort.word d.levels s rest e h
  brackets_draft sort.text_end d s rest e h = brackets_after sort.text_end d.levels s rest e h

  where_is : (m : Result Reading Expected) (c : Reading) → m ≡ Ok c → WhereRead m (λ r. r ≡ c)
  where_is m c e = subst (λ (x : Result Reading Expected). WhereRead x (λ r. r ≡ c)) (sym e) refl

  -- a lexeme that the grammar takes leads to the next stage
  next_stage : (k : Sort) (d : Draft) (s : List ℕ) (g : List ℕ) (r c : Reading) (bits : List Bit) (touch : Touch) → sort_of s ≡ k
      → turned r.open_brackets (sort_turn k r.next (innermost r.open_brackets) g s) ≡ Ok c → Fits r.next r.open_brackets d.levels
      → AreOpened d.levels → AreCalm d.levels ⊎ EndsFirst (s ∷ lexemes_then bits []) → AreLexemes (s ∷ lexemes_then bits [])
      → AreBrackets d.levels → IsStage (place touch c) bits (draft_with style k d s (lexemes_then bits [])).levels
  next_stage k d s g r c bits touch e t f o calm are h =
      let rest = lexemes_then bits [] in
      let led =
      (steps style d s rest (λ u. u ≡ c) k r.next r.open_brackets g e
      (where_is (turned r.open_brackets (sort_turn k r.next (innermost r.open_brackets) g s)) c t) f o calm are).1 in
      record {
        fits = subst (λ (u : Reading). Fits u.next u.open_brackets (draft_with style k d s rest).levels) led.ok led.fits;
        opened = led.opened;
        calm = led.calm;
        brackets = brackets_draft k d s rest (alone_is s are.0) h;
      }

-- ---- words that wait

-- levels with a word more
abbrev levels_with_word : List ℕ → List Level → List Level
levels_with_word w [] = with_part new_statement w (lexeme_tree w) ∷ []
levels_with_word w (lv ∷ lvs) = with_part lv w (lexeme_tree w) ∷ lvs

-- levels alike, but that a word waits
abbrev IsWaiting : Option (List ℕ) → Place → List Level → List Level → Type 0
IsWaiting None a levels others = (a.touch ≡ after word → ⊥) × AreTwins levels others
IsWaiting (Some w) a levels others =
    (a.touch ≡ after word) × (sort_of w ≡ sort.word) × IsKeyDue a.reading.next w × AreTwins levels (levels_with_word w others)

-- with the word that waits
abbrev flushed : Option (List ℕ) → List Level → List Level
flushed None levels = levels
flushed (Some w) levels = levels_with_word w levels

flushed_twins : (p : Option (List ℕ)) (a : Place) (levels others : List Level) → IsWaiting p a levels others
    → AreTwins levels (flushed p others)
flushed_twins None a levels others h = h.1
flushed_twins (Some w) a levels others h = h.3

module _ (style : Style) where
  word_levels : (levels : List Level) (w : List ℕ) (rest : List (List ℕ))
      → levels_after style sort.word levels w rest ≡ levels_with_word w levels
  word_levels [] w rest = refl
  word_levels (lv ∷ lvs) w rest = refl

  word_read : (d : Draft) (w : List ℕ) (rest : List (List ℕ)) → sort_of w ≡ sort.word
      → document_from style d (w ∷ rest) ≡ document_from style (record d { levels = levels_with_word w d.levels }) rest
  word_read d w rest e =
      from_lexeme style sort.word d w rest e
      ∙ ap (λ (l : List Level). document_from style (record d { levels = l }) rest) (word_levels d.levels w rest)

  flush : (p : Option (List ℕ)) (a : Place) (levels : List Level) (d : Draft) (rest : List (List ℕ)) → IsWaiting p a levels d.levels
      → document_from style d (word_then p rest) ≡ document_from style (record d { levels = flushed p d.levels }) rest
  flush None a levels d rest h = refl
  flush (Some w) a levels d rest h = word_read d w rest h.1

  word_twins : (levels others : List Level) (s : List ℕ) → AreTwins levels others
      → AreTwins (levels_with_word s levels) (levels_with_word s others)
  word_twins [] [] s t = (twin_same (with_part new_statement s (lexeme_tree s)), tt)
  word_twins [] (o ∷ os) s t = absurd t
  word_twins (lv ∷ lvs) [] s t = absurd t
  word_twins (lv ∷ lvs) (o ∷ os) s t = (twin_part lv o s (lexeme_tree s) (lexeme_tree s) t.0 (alike_same (lexeme_tree s)), t.1)

-- ---- two words

-- where words meet at a dot, nothing is between them
dot_gap : (dotted begins : Bool) (kind : Kind) (blank : Bool) → dotted || begins ≡ true
    → gap_before_part kind (last_after_sort sort.word dotted) sort.word begins blank ≡ gap.Nothing
dot_gap true begins kind blank h = refl
dot_gap false true kind blank h = refl
dot_gap false false kind blank h = absurd (cc)

word_last_is : (w : List ℕ) → sort_of w ≡ sort.word → last_after_text w ≡ last_after_sort sort.word (ends_with_dot w)
word_last_is w e = ap (λ (k : Sort). last_after_sort k (ends_with_dot w)) e

met_gap : (kind : Kind) (l : Last) (w s : List ℕ) (blank : Bool) → l ≡ last_after_text w → sort_of w ≡ sort.word → sort_of s ≡ sort.word
    → ends_with_dot w || (head s == dot) ≡ true → gap_before_text kind l s blank ≡ gap.Nothing
met_gap kind l w s blank e ws ss h =
    ap (λ (k : Last). gap_before_text kind k s blank) (e ∙ word_last_is w ws)
    ∙ ap (λ (k : Sort). gap_before_part kind (last_after_sort sort.word (ends_with_dot w)) k (head s == dot) blank) ss
    ∙ dot_gap (ends_with_dot w) (head s == dot) kind blank h

front_sort : (w s : List ℕ) → sort_of w ≡ sort.word → sort_of (w ++ s) ≡ sort.word
front_sort [] s e = absurd (cc)
front_sort (x ∷ w) s e = e

front_head : (w s : List ℕ) → sort_of w ≡ sort.word → head (w ++ s) ≡ head w
front_head [] s e = absurd (cc)
front_head (x ∷ w) s e = refl

both_last : (w : List ℕ) (x : ℕ) (s : List ℕ) → sort_of w ≡ sort.word → sort_of (x ∷ s) ≡ sort.word
    → ends_with_dot (w ++ (x ∷ s)) ≡ ends_with_dot (x ∷ s) → last_after_text (w ++ (x ∷ s)) ≡ last_after_text (x ∷ s)
both_last w x s e f d =
    word_last_is (w ++ (x ∷ s)) (front_sort w (x ∷ s) e) ∙ ap (last_after_sort sort.word) d ∙ sym (word_last_is (x ∷ s) f)

-- the second word joins the first one
join_twins : (lv other : Level) (w : List ℕ) (x : ℕ) (s : List ℕ) → sort_of w ≡ sort.word → sort_of (x ∷ s) ≡ sort.word → IsPlainWord w
    → IsPlainWord (x ∷ s) → ends_with_dot w || (x == dot) ≡ true → ends_with_dot (w ++ (x ∷ s)) ≡ ends_with_dot (x ∷ s)
    → IsTwin lv (with_part other w (lexeme_tree w))
    → IsTwin (with_part lv (x ∷ s) (lexeme_tree (x ∷ s))) (with_part other (w ++ (x ∷ s)) (lexeme_tree (w ++ (x ∷ s))))
join_twins lv other w x s ws ss pw ps meet ends h =
    let t = x ∷ s in
    let first = with_part other w (lexeme_tree w) in
    let z = level_end other in
    let kind : other.kind ≡ lv.kind = same_kind lv first h in
    let opening : other.opening ≡ lv.opening = same_opening lv first h in
    let both = level_alike lv first h in
    let g = gap_before_text other.kind z.last w other.blank in
    let nothing : gap_before_text lv.kind (level_end lv).last t lv.blank ≡ gap.Nothing =
    met_gap lv.kind (level_end lv).last w t lv.blank (sym both.last) ws ss meet in
    let same : gap_before_text lv.kind z.last (w ++ t) other.blank ≡ g =
    ap (λ (k : Kind). gap_before_text k z.last (w ++ t) other.blank) (sym kind)
    ∙ ap (λ (k : Sort). gap_before_part other.kind z.last k (head (w ++ t) == dot) other.blank) (front_sort w t ws ∙ sym ws)
    ∙ ap (λ (b : ℕ). gap_before_part other.kind z.last (sort_of w) (b == dot) other.blank) (front_head w t ws) in
    record {
      before = z;
      part = Some (record { blank = other.blank; first = w ++ t; tree = lexeme_tree (w ++ t) });
      same = λ i. record {
        kind = kind i;
        opening = opening i;
        before = z;
        entry = row (Some (record { blank = other.blank; first = w ++ t; tree = lexeme_tree (w ++ t) })) false [];
        broken = false;
        blank = false;
      };
      ends = record {
        last = both_last w x s ws ss ends;
        tree =
            subst (λ (a : Gap). Alike (separated a (level_end lv).tree (lexeme_tree t))
            (separated (gap_before_text lv.kind z.last (w ++ t) other.blank) z.tree (lexeme_tree (w ++ t))))
            (sym nothing)
            (subst (λ (a : Gap). Alike (append (level_end lv).tree (lexeme_tree t)) (separated a z.tree (lexeme_tree (w ++ t)))) (sym same)
            (λ m ms.
            let i = both.tree m ms in
            (i.0, i.1 ++ word_bits t, again_joined_words g (level_end lv).tree z.tree m ms i.0 i.1 w t pw ps i.2)));
      };
    }

joined_twins : (levels others : List Level) (w : List ℕ) (x : ℕ) (s : List ℕ) → sort_of w ≡ sort.word → sort_of (x ∷ s) ≡ sort.word
    → IsPlainWord w → IsPlainWord (x ∷ s) → ends_with_dot w || (x == dot) ≡ true → ends_with_dot (w ++ (x ∷ s)) ≡ ends_with_dot (x ∷ s)
    → AreTwins levels (levels_with_word w others) → AreTwins (levels_with_word (x ∷ s) levels) (levels_with_word (w ++ (x ∷ s)) others)
joined_twins [] [] w x s ws ss pw ps meet ends t = absurd t
joined_twins [] (o ∷ os) w x s ws ss pw ps meet ends t = absurd t
joined_twins (lv ∷ lvs) [] w x s ws ss pw ps meet ends t = (join_twins lv new_statement w x s ws ss pw ps meet ends t.0, t.1)
joined_twins (lv ∷ lvs) (o ∷ os) w x s ws ss pw ps meet ends t = (join_twins lv o w x s ws ss pw ps meet ends t.0, t.1)

-- ---- what a bracket opens

kind_same : (kind : Kind) (ss ts : List (List ℕ)) → only_number_words ss ≡ only_number_words ts
    → opened_kind kind false sort.open_array ss ≡ opened_kind kind false sort.open_array ts
kind_same kind ss ts e =
    kind_before_is (array_in kind false) ss ∙ ap (kind_with (array_in kind false)) e ∙ sym (kind_before_is (array_in kind false) ts)

header_kind : (kind : Kind) (ss ts : List (List ℕ)) → kind ≡ Header
    → opened_kind kind false sort.open_array ss ≡ opened_kind kind false sort.open_array ts
header_kind kind ss ts e =
    ap (λ (k : Kind). opened_kind k false sort.open_array ss) e ∙ sym (ap (λ (k : Kind). opened_kind k false sort.open_array ts) e)

array_same : (bits : List Bit) (b c : Place) (levels : List Level) → Runs c bits b → innermost c.reading.open_brackets ≡ Some bracket.Array
    → IsInArray c.reading.next → (c.touch ≡ after word → ⊥)
    → OpensSame sort.open_array (lexemes_then bits []) (joined_from None bits) levels
array_same bits b c [] runs i h t = refl
array_same bits b c (lv ∷ lvs) runs i h t =
    kind_same lv.kind (lexemes_then bits []) (joined_from None bits) (numbers_joined bits c b None runs i h t)

opened_reading : (bs : List Bracket) (c : Reading) → turned bs (turn.Opens bracket.Array next.Member) ≡ Ok c
    → (innermost c.open_brackets ≡ Some bracket.Array) × IsInArray c.next
opened_reading bs c t =
    subst (λ (r : Reading). (innermost r.open_brackets ≡ Some bracket.Array) × IsInArray r.next) (same_reading t)
    (innermost_more bs bracket.Array, tt)

opens_same : (bits : List Bit) (b c : Place) (n : Next) (bs : List Bracket) (g : List ℕ) (levels : List Level)
    → turned bs (open_array_turn n (innermost bs) g) ≡ Ok c.reading → Fits n bs levels → AreCalm levels → Runs c bits b
    → (c.touch ≡ after word → ⊥) → OpensSame sort.open_array (lexemes_then bits []) (joined_from None bits) levels
opens_same bits b c next.Line bs g [] t f calm runs no_word = refl
opens_same bits b c next.Line bs g (lv ∷ []) t f calm runs no_word = absurd (idle_calm lv f.1 calm)
opens_same bits b c next.Line bs g (lv ∷ outer ∷ lvs) t f calm runs no_word = absurd f.1
opens_same bits b c next.Header bs g [] t f calm runs no_word = refl
opens_same bits b c next.Header bs g (lv ∷ lvs) t f calm runs no_word =
    header_kind lv.kind (lexemes_then bits []) (joined_from None bits) f.2
opens_same bits b c next.Value bs g levels t f calm runs no_word =
    let r = opened_reading bs c.reading t in array_same bits b c levels runs r.0 r.1 no_word
opens_same bits b c next.Member bs g levels t f calm runs no_word =
    let r = opened_reading bs c.reading t in array_same bits b c levels runs r.0 r.1 no_word
opens_same bits b c (next.Key o due) bs g levels t f calm runs no_word = absurd (cc)
opens_same bits b c next.Closing bs g levels t f calm runs no_word = absurd (cc)
opens_same bits b c next.Entry bs g levels t f calm runs no_word = absurd (cc)
opens_same bits b c next.After bs g levels t f calm runs no_word = absurd (cc)
opens_same bits b c next.AfterDate bs g levels t f calm runs no_word = absurd (cc)

-- ---- one lexeme more

calm_or : (levels : List Level) (s : List ℕ) (rest : List (List ℕ)) (k : Sort) → sort_of s ≡ k → (k ≡ sort.line_end → ⊥)
    → AreCalm levels ⊎ EndsFirst (s ∷ rest) → AreCalm levels
calm_or levels s rest k e other (inl calm) = calm
calm_or levels s rest k e other (inr ends) = absurd (other (sym e ∙ ends))

module _ (style : Style) where
  levels_twins : (d e : Draft) (levels others : List Level) → DraftsAlike d e → AreTwins levels others
      → DraftsAlike (record d { levels = levels }) (record e { levels = others })
  levels_twins d e levels others h t = record { done = h.done; some = h.some; blank = h.blank; levels = t }

  draft_twins : (k : Sort) (d e : Draft) (s : List ℕ) (rest more : List (List ℕ)) → OpensSame k rest more d.levels → IsLexeme s
      → AreBrackets d.levels → DraftsAlike d e → DraftsAlike (draft_with style k d s rest) (draft_with style k e s more)
  draft_twins sort.line_end d e s rest more o alone are h = ended_alike d e d.levels e.levels h.done h.some h.blank h.levels
  draft_twins sort.open_array d e s rest more o alone are h =
      levels_twins d e _ _ h (twins_after style s rest more sort.open_array d.levels e.levels o alone are h.levels)
  draft_twins sort.open_table d e s rest more o alone are h =
      levels_twins d e _ _ h (twins_after style s rest more sort.open_table d.levels e.levels o alone are h.levels)
  draft_twins sort.close_array d e s rest more o alone are h =
      levels_twins d e _ _ h (twins_after style s rest more sort.close_array d.levels e.levels o alone are h.levels)
  draft_twins sort.close_table d e s rest more o alone are h =
      levels_twins d e _ _ h (twins_after style s rest more sort.close_table d.levels e.levels o alone are h.levels)
  draft_twins sort.comma d e s rest more o alone are h =
      levels_twins d e _ _ h (twins_after style s rest more sort.comma d.levels e.levels o alone are h.levels)
  draft_twins sort.equals d e s rest more o alone are h =
      levels_twins d e _ _ h (twins_after style s rest more sort.equals d.levels e.levels o alone are h.levels)
  draft_twins sort.comment d e s rest more o alone are h =
      levels_twins d e _ _ h (twins_after style s rest more sort.comment d.levels e.levels o alone are h.levels)
  draft_twins sort.string d e s rest more o alone are h =
      levels_twins d e _ _ h (twins_after style s rest more sort.string d.levels e.levels o alone are h.levels)
  draft_twins sort.word d e s rest more o alone are h =
      levels_twins d e _ _ h (twins_after style s rest more sort.word d.levels e.levels o alone are h.levels)
  draft_twins sort.text_end d e s rest more o alone are h =
      levels_twins d e _ _ h (twins_after style s rest more sort.text_end d.levels e.levels o alone are h.levels)

-- ---- all of them

-- drafts alike, but that a word waits
record AreDoubles (p : Option (List ℕ)) (a : Place) (d e : Draft) : Type 0 where
  done : Alike d.done e.done
  some : e.some ≡ d.some
  blank : e.blank ≡ d.blank
  waiting : IsWaiting p a d.levels e.levels

abbrev with_waiting : Option (List ℕ) → Draft → Draft
with_waiting p e = record e { levels = flushed p e.levels }

doubles_alike : (p : Option (List ℕ)) (a : Place) (d e : Draft) → AreDoubles p a d e → DraftsAlike d (with_waiting p e)
doubles_alike p a d e h =
    record { done = h.done; some = h.some; blank = h.blank; levels = flushed_twins p a d.levels e.levels h.waiting }

pub lex_word : (k : Sort) → lex_of k ≡ word → k ≡ sort.word
lex_word sort.word e = refl
lex_word sort.comment e = absurd (cc)
lex_word sort.string e = absurd (cc)
lex_word sort.open_array e = absurd (cc)
lex_word sort.open_table e = absurd (cc)
lex_word sort.close_array e = absurd (cc)
lex_word sort.close_table e = absurd (cc)
lex_word sort.comma e = absurd (cc)
lex_word sort.equals e = absurd (cc)
lex_word sort.line_end e = absurd (cc)
lex_word sort.text_end e = absurd (cc)

not_after_word : (c : Place) (s : List ℕ) → IsWholeLexeme s → is_word s ≡ false → c.touch ≡ after (lex_of (sort_of s))
    → c.touch ≡ after word → ⊥
not_after_word c s whole none t e =
    let same : after (lex_of (sort_of s)) ≡ after word = sym t ∙ e in
    let lex : lex_of (sort_of s) ≡ word = cc in
    no_word_sort s whole none (lex_word (sort_of s) lex)

same_stage : (a c : Place) (bits : List Bit) (levels : List Level) → a.reading ≡ c.reading → IsStage a bits levels → IsStage c bits levels
same_stage a c bits levels e h = record {
  fits = subst (λ (r : Reading). Fits r.next r.open_brackets levels) e h.fits;
  opened = h.opened;
  calm = h.calm;
  brackets = h.brackets;
}

no_comment_touch : (a : Place) (s : List ℕ) → MayTouch a.touch a.reading.next s → a.touch ≡ after comment → ⊥
no_comment_touch a s m e = subst (λ (t : Touch). MayTouch t a.reading.next s) e m

module _ (style : Style) where
  abbrev AlikeFrom : List Bit → Type 0
  AlikeFrom bits =
      (a b : Place) (p : Option (List ℕ)) (d e : Draft) → Runs a bits b → IsStage a bits d.levels → AreDoubles p a d e
      → Alike (document_from style d (lexemes_then bits [])) (document_from style e (joined_from p bits))

  opens_for : (k : Sort) (bits : List Bit) (a b c : Place) (s g : List ℕ) (levels : List Level) → sort_of s ≡ k → Stands a s c
      → turned a.reading.open_brackets (sort_turn k a.reading.next (innermost a.reading.open_brackets) g s) ≡ Ok c.reading
      → Fits a.reading.next a.reading.open_brackets levels → AreCalm levels ⊎ EndsFirst (s ∷ lexemes_then bits []) → Runs c bits b
      → (c.touch ≡ after word → ⊥) → OpensSame k (lexemes_then bits []) (joined_from None bits) levels
  opens_for sort.open_array bits a b c s g levels e st t f calm runs n =
      opens_same bits b c a.reading.next a.reading.open_brackets g levels t f
      (calm_or levels s (lexemes_then bits []) sort.open_array e (λ q. absurd (cc)) calm) runs n
  opens_for sort.open_table bits a b c s g levels e st t f calm runs n = tt
  opens_for sort.close_array bits a b c s g levels e st t f calm runs n = tt
  opens_for sort.close_table bits a b c s g levels e st t f calm runs n = tt
  opens_for sort.comma bits a b c s g levels e st t f calm runs n = tt
  opens_for sort.equals bits a b c s g levels e st t f calm runs n = tt
  opens_for sort.line_end bits a b c s g levels e st t f calm runs n = tt
  opens_for sort.comment bits a b c s g levels e st t f calm runs n = tt
  opens_for sort.string bits a b c s g levels e st t f calm runs n = tt
  opens_for sort.word bits a b c s g levels e st t f calm runs n = tt
  opens_for sort.text_end bits a b c s g levels e st t f calm runs n = tt

  module _ (bits : List Bit) (more : AlikeFrom bits) (a b c : Place) (s : List ℕ) (st : Stands a s c) (runs : Runs c bits b) (d e : Draft)
      (are : AreLexemes (s ∷ lexemes_then bits [])) (f : Fits a.reading.next a.reading.open_brackets d.levels) (opened : AreOpened d.levels)
      (calm : AreCalm d.levels ⊎ EndsFirst (s ∷ lexemes_then bits [])) (brackets : AreBrackets d.levels) where
    stage_after : (k : Sort) → sort_of s ≡ k → IsStage c bits (draft_with style k d s (lexemes_then bits [])).levels
    stage_after k is =
        let t = stands_turn a c s k st is in
        same_stage (place c.touch c.reading) c bits (draft_with style k d s (lexemes_then bits [])).levels refl
        (next_stage style k d s t.0 a.reading c.reading bits c.touch is t.1 f opened calm are brackets)

    other_alike : (p : Option (List ℕ)) → is_word s ≡ false → AreDoubles p a d e
        → Alike (document_from style d (s ∷ lexemes_then bits [])) (document_from style e (word_then p (s ∷ joined_from None bits)))
    other_alike p none h =
        let k = sort_of s in
        let t = stands_turn a c s k st refl in
        let fe = with_waiting p e in
        let rest = lexemes_then bits [] in
        let joined = joined_from None bits in
        let touch = not_after_word c s st.whole none st.touch in
        let twins = draft_twins style k d fe s rest joined
        (opens_for k bits a b c s t.0 d.levels refl st t.1 f calm runs touch) (alone_is s st.whole.alone) brackets
        (doubles_alike p a d e h) in
        subst (Alike (document_from style d (s ∷ rest)))
        (sym (flush style p a d.levels e (s ∷ joined) h.waiting ∙ from_lexeme style k fe s joined refl))
        (subst (λ (x : Tree). Alike x (document_from style (draft_with style k fe s joined) joined))
        (sym (from_lexeme style k d s rest refl))
        (more c b None (draft_with style k d s rest) (draft_with style k fe s joined) runs (stage_after k refl)
        (record { done = twins.done; some = twins.some; blank = twins.blank; waiting = (touch, twins.levels) })))

    word_stage : sort_of s ≡ sort.word → IsStage c bits (levels_with_word s d.levels)
    word_stage is = subst (IsStage c bits) (word_levels style d.levels s (lexemes_then bits [])) (stage_after sort.word is)

    word_alike : (w : List ℕ) → sort_of s ≡ sort.word → Alike d.done e.done → e.some ≡ d.some → e.blank ≡ d.blank
        → IsWaiting (Some w) c (levels_with_word s d.levels) e.levels
        → Alike (document_from style d (s ∷ lexemes_then bits [])) (document_from style e (joined_from (Some w) bits))
    word_alike w is done some blank waiting =
        let rest = lexemes_then bits [] in
        subst (λ (x : Tree). Alike x (document_from style e (joined_from (Some w) bits))) (sym (word_read style d s rest is))
        (more c b (Some w) (record d { levels = levels_with_word s d.levels }) e runs (word_stage is)
        (record { done = done; some = some; blank = blank; waiting = waiting }))

  -- a word after what waits
  waiting_more : (p : Option (List ℕ)) (a c : Place) (x : ℕ) (s : List ℕ) (levels others : List Level) → Stands a (x ∷ s) c
      → is_word (x ∷ s) ≡ true → sort_of (x ∷ s) ≡ sort.word → IsWaiting p a levels others
      → IsWaiting (Some (with_word p (x ∷ s))) c (levels_with_word (x ∷ s) levels) others
  waiting_more None a c x s levels others st letter is h =
      let t = stands_turn a c (x ∷ s) sort.word st is in (
        st.touch ∙ ap (λ (k : Sort). after (lex_of k)) is,
        is,
        word_due a.reading.next a.reading.open_brackets (innermost a.reading.open_brackets) t.0 x s c.reading t.1,
        word_twins style levels others (x ∷ s) h.1,
      )
  waiting_more (Some w) a c x s levels others st letter is (touch, ws, due, twins) =
      let t = stands_turn a c (x ∷ s) sort.word st is in
      let n = a.reading.next in
      let bs = a.reading.open_brackets in
      let key = key_here (subst (λ (k : Touch). MayTouch k n (x ∷ s)) touch st.touches) in
      let pw = plain_before n w key due in
      let ps = plain_after n bs (innermost bs) t.0 x s c.reading key t.1 in (
        st.touch ∙ ap (λ (k : Sort). after (lex_of k)) is,
        front_sort w (x ∷ s) ws,
        both_due c.reading.next w x s pw (word_due n bs (innermost bs) t.0 x s c.reading t.1),
        joined_twins levels others w x s ws is pw ps (words_meet_at n bs (innermost bs) t.0 w x s c.reading key due t.1)
            (ends_both w x s) twins,
      )
    where
      key_here : (ends_word x ≡ true) ⊎ (IsKey a.reading.next × (ends_word x ≡ false)) → IsKey a.reading.next
      key_here (inl ends) = absurd (true≢false (sym ends ∙ word_letter (x ∷ s) letter))
      key_here (inr k) = k.0

  text_alike : (bits : List Bit) (more : AlikeFrom bits) (a b c : Place) (p : Option (List ℕ)) (s : List ℕ) (d e : Draft) → Stands a s c
      → Runs c bits b → AreLexemes (s ∷ lexemes_then bits []) → Fits a.reading.next a.reading.open_brackets d.levels → AreOpened d.levels
      → AreCalm d.levels ⊎ EndsFirst (s ∷ lexemes_then bits []) → AreBrackets d.levels → AreDoubles p a d e → (w : Bool) → is_word s ≡ w
      → Alike (document_from style d (s ∷ lexemes_then bits []))
      (document_from style e (cond w (joined_from (Some (with_word p s)) bits) (word_then p (s ∷ joined_from None bits))))
  text_alike bits more a b c p s d e st runs are f opened calm brackets h false none =
      other_alike bits more a b c s st runs d e are f opened calm brackets p none h
  text_alike bits more a b c p [] d e st runs are f opened calm brackets h true letter = absurd (no_lexeme st.whole.alone)
  text_alike bits more a b c p (x ∷ s) d e st runs are f opened calm brackets h true letter =
      let is = word_sort_is (x ∷ s) st.whole letter in
      word_alike bits more a b c (x ∷ s) st runs d e are f opened calm brackets (with_word p (x ∷ s)) is h.done h.some h.blank
      (waiting_more p a c x s d.levels e.levels st letter is h.waiting)

  joined_alike : (bits : List Bit) → AlikeFrom bits
  unfolding document_from
  joined_alike [] a b p d e runs stage h =
      let twins = doubles_alike p a d e h in
      subst (Alike (ended_in d d.levels)) (sym (flush style p a d.levels e [] h.waiting))
      (text_end_alike d (with_waiting p e) d.levels (flushed p e.levels) h.done h.blank twins.levels)
  joined_alike (end_of_line ∷ bits) a b p d e (r, may, ends, runs) stage h =
      let fe = with_waiting p e in
      let twins = doubles_alike p a d e h in
      let rest = lexemes_then bits [] in
      let joined = joined_from None bits in
      let ended = ended_alike d fe d.levels fe.levels h.done h.some h.blank twins.levels in
      subst (Alike (document_from style (with_ended_line d d.levels) rest))
      (sym (flush style p a d.levels e ((10 ∷ []) ∷ joined) h.waiting))
      (joined_alike bits (place at_line r) b None (with_ended_line d d.levels) (with_ended_line fe fe.levels) runs
      (next_stage style sort.line_end d (10 ∷ []) [] a.reading r bits at_line refl ends stage.fits stage.opened stage.calm
      (lexemes_of_run (end_of_line ∷ bits) a b (r, may, ends, runs)) stage.brackets)
      (record { done = ended.done; some = ended.some; blank = ended.blank; waiting = (line_none, ended.levels) }))
  joined_alike (text_of s ∷ bits) a b p d e (c, inl space, runs) stage h =
      let fe = with_waiting p e in
      let twins = doubles_alike p a d e h in
      let rest = lexemes_then bits [] in
      let joined = joined_from None bits in
      let on : Place = place after_space a.reading in
      let here : IsStage on bits d.levels = same_stage a on bits d.levels refl
      (record {
        fits = stage.fits;
        opened = stage.opened;
        calm = subst (λ (u : List ℕ). AreCalm d.levels ⊎ EndsFirst (lexeme_then u rest)) space.space stage.calm;
        brackets = stage.brackets;
      }) in
      subst
      (λ (u : List ℕ).
      Alike (document_from style d (lexeme_then u rest))
      (document_from style e (cond (is_word u) (joined_from (Some (with_word p u)) bits) (word_then p (lexeme_then u joined)))))
      (sym space.space)
      (subst (Alike (document_from style d rest)) (sym (flush style p a d.levels e joined h.waiting))
      (joined_alike bits on b None d fe (subst (λ (q : Place). Runs q bits b) space.place runs) here
      (record { done = h.done; some = h.some; blank = h.blank; waiting = (space_none, twins.levels) })))
  joined_alike (text_of s ∷ bits) a b p d e (c, inr st, runs) stage h =
      let rest = lexemes_then bits [] in
      let joined = joined_from None bits in
      let alone = alone_is s st.whole.alone in
      let are : AreLexemes (s ∷ rest) = subst AreLexemes (alone rest) (lexemes_of_run (text_of s ∷ bits) a b (c, inr st, runs)) in
      let calm : AreCalm d.levels ⊎ EndsFirst (s ∷ rest) =
      subst (λ (ss : List (List ℕ)). AreCalm d.levels ⊎ EndsFirst ss) (alone rest) stage.calm in
      subst
      (λ (ss : List (List ℕ)).
      Alike (document_from style d ss)
      (document_from style e (cond (is_word s) (joined_from (Some (with_word p s)) bits) (word_then p (lexeme_then s joined)))))
      (sym (alone rest))
      (subst
      (λ (ss : List (List ℕ)).
      Alike (document_from style d (s ∷ rest))
      (document_from style e (cond (is_word s) (joined_from (Some (with_word p s)) bits) (word_then p ss))))
      (sym (alone joined))
      (text_alike bits (joined_alike bits) a b c p s d e st runs are stage.fits stage.opened calm stage.brackets h (is_word s) refl))

  -- where the texts and line ends lead the grammar from the beginning of a text, the document of their lexemes is laid like that of
  -- the texts, where words are apart
  pub joined_documents : (bits : List Bit) (b : Place) → Runs (place at_line first_reading) bits b
      → Alike (toml_document style (lexemes_then bits [])) (toml_document style (joined_from None bits))
  joined_documents bits b runs =
      joined_alike bits (place at_line first_reading) b None no_draft no_draft runs
      (record { fits = (refl, tt); opened = tt; calm = inl tt; brackets = tt })
      (record { done = alike_same Nil; some = refl; blank = refl; waiting = (line_none, tt) })
