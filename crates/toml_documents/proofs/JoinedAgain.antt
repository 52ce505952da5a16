-- Words side by side are laid again as one.
use Rattle.std.proofs.Common.{◌≡◌, refl, sym, ◌∙◌, ap, subst, ℕ, Bool, true, false, ◌&&◌, ◌||◌, List, [], ◌∷◌, ◌++◌}
use Rattle.std.proofs.Common.{length, inl, inr, if◌then◌else◌}
use Rattle.std.specs.List.{list_any}
use Rattle.std.specs.Prelude.{nat_lt}
use Rattle.std.proofs.lemmas.List.{length-append}
use Rattle.std.proofs.lemmas.List.Folds.{list_all-append, list_any-append}
use Rattle.prettyless_model.specs.Layout.{Entry, State, and_then, entry, lay, lay_text, rest_fits}
use Rattle.prettyless_model.specs.Levels.{settle}
use Rattle.prettyless_model.specs.Look.{look, look_text}
use Rattle.prettyless_model.specs.Metrics.{is_ascii}
use Rattle.prettyless_model.specs.Tree.{Tree, Text, Append}
use Rattle.prettyless_trees.specs.Built.{is_nil}
use Rattle.prettyless_model.specs.declared.column.Column.{Column}
use Rattle.prettyless_model.specs.declared.mode.Mode.{Mode}
use Rattle.prettyless_model.specs.declared.mode.Mode.TheVariants.{Break, Flat}
use Rattle.prettyless_model.specs.declared.options.RenderOptions.{RenderOptions}
use Rattle.prettyless_model.proofs.Looks.{answer-same, answer-then, look-each, look-then-then}
use Rattle.prettyless_model.proofs.Outcomes.{then-then}
use Rattle.prettyless_laws.specs.Parts.{FollowAlike, IsNeverFlat}
use Rattle.prettyless_laws.proofs.Following.{lay_alike, then-same}
use Rattle.prettyless_laws.proofs.Inline.{lay_inline, look_inline}
use Rattle.prettyless_laws.proofs.LineEnds.{breaks_read_alike}
use Rattle.prettyless_trees.specs.Built.{append}
use Rattle.prettyless_trees.specs.Counted as counted
use Rattle.toml_documents.specs.Documents.{broken_if, is_line_feed_byte, lexeme_tree, separated}
use Rattle.prettyless_laws.specs.Bits.{Bit, word_bits}
use Rattle.prettyless_laws.proofs.Again.{Again, IsFlatAgain, IsLaidLike, LooksSame}
use Rattle.toml_documents.proofs.AgainLaws.{WordsAreJoined}
use Rattle.toml_documents.specs.declared.gaps.Gap.{Gap}
use Rattle.toml_documents.specs.declared.gaps.Gap.TheVariants as gap
use Rattle.prettyless_laws.proofs.NodesAgain.{again_append, append_is, joined}
use Rattle.toml_documents.proofs.SeparatedAgain.{again_text}

-- ---- documents that are laid the same

-- they are laid the same and look the same, before what is seen alike
pub record IsSameLaid (y v : Tree) : Type 0 where
  pub nil : is_nil y ≡ is_nil v
  pub looks : (m : Mode) → LooksSame m y v
  pub never : IsNeverFlat y → IsNeverFlat v
  pub laid : (o : RenderOptions) (i : ℕ) (m : Mode) (a b : List Entry) (st : State) → FollowAlike a b
      → lay o (settle o) y i m a st ≡ lay o (settle o) v i m b st

same_flat : (x y v : Tree) (m : Mode) (ms : List Mode) → IsSameLaid y v → IsFlatAgain x y m ms → IsFlatAgain x v m ms
same_flat x y v Flat ms s (inl h) = inl h
same_flat x y v Flat ms s (inr h) = inr (λ w i c p. h w i c p ∙ s.looks Flat w i c p)
same_flat x y v Break ms s (inl h) = inl (s.never h)
same_flat x y v Break ms s (inr (inl h)) = inr (inl (λ w i c p. h w i c p ∙ s.looks Flat w i c p))
same_flat x y v Break ms s (inr (inr h)) = inr (inr h)

follow_same : (a : List Entry) → FollowAlike a a
follow_same a = (λ i. refl, λ w c p. refl)

-- what is laid the same as a document laid again is the document laid again
pub again_then_same : (x y v : Tree) (m : Mode) (ms left : List Mode) (bits : List Bit) → IsSameLaid y v → Again x y m ms left bits
    → Again x v m ms left bits
again_then_same x y v m ms left bits s h = record {
  nil = h.nil ∙ s.nil;
  broken = λ w i c p. h.broken w i c p ∙ s.looks Break w i c p;
  flat = same_flat x y v m ms s h.flat;
  after = h.after;
  spelled = h.spelled;
  laid = λ o i a b st more f e.
      subst (IsLaidLike (lay o (settle o) x i m a st)) (s.laid o i m b b st (follow_same b)) (h.laid o i a b st more f e);
}

-- ---- two texts and one

module _ (s t : List ℕ) where
  text_looks : (w : ℕ) (i : ℕ) (m : Mode) (c : Column) (p : Bool)
      → look w (Append (Text s) (Text t)) i m c p ≡ look w (Text (s ++ t)) i m c p
  text_looks w i m c p =
      look_inline w (Append (Text s) (Text t)) i c p (tt, tt)
      ∙ ap (λ (n : ℕ). look_text w n (s ++ t) c p) (sym (length-append s t))

  texts_laid : (o : RenderOptions) (i : ℕ) (m : Mode) (a b : List Entry) (st : State)
      → lay o (settle o) (Append (Text s) (Text t)) i m a st ≡ lay o (settle o) (Text (s ++ t)) i m b st
  unfolding lay
  texts_laid o i m a b st =
      lay_inline o (settle o) (Append (Text s) (Text t)) i a st (tt, tt)
      ∙ ap (λ (n : ℕ). lay_text o n (s ++ t) st) (sym (length-append s t))

  alone_same : IsSameLaid (Append (Text s) (Text t)) (Text (s ++ t))
  alone_same = record {
    nil = refl;
    looks = λ m w i c p. text_looks w i m c p;
    never = λ h. elim h [ inl e ↦ e | inr e ↦ e ];
    laid = λ o i m a b st f. texts_laid o i m a b st;
  }

  after_looks : (z : Tree) (m : Mode) → LooksSame m (Append (Append z (Text s)) (Text t)) (Append z (Text (s ++ t)))
  after_looks z m = λ w i c p.
      look-then-then (look w z i m c p) (λ e q. look w (Text s) i m e q) (λ e q. look w (Text t) i m e q)
      ∙ look-each (look w z i m c p) (λ e q. look w (Append (Text s) (Text t)) i m e q) (λ e q. look w (Text (s ++ t)) i m e q)
      (λ e q. text_looks w i m e q)

  texts_follow : (i : ℕ) (a b : List Entry) → FollowAlike a b
      → FollowAlike (entry i (Text s) ∷ entry i (Text t) ∷ a) (entry i (Text (s ++ t)) ∷ b)
  texts_follow i a b f = (
    λ k. refl,
    λ w c p.
        sym (answer-then (look w (Text s) i Break c p) (λ e q. look w (Text t) i Break e q) (λ e q. rest_fits w a e q))
        ∙ answer-same (look w (Append (Text s) (Text t)) i Break c p) (look w (Text (s ++ t)) i Break c p) (λ e q. rest_fits w a e q)
        (λ e q. rest_fits w b e q) (text_looks w i Break c p) (λ e q. f.1 w e q),
  )

  after_laid : (z : Tree) (o : RenderOptions) (i : ℕ) (m : Mode) (a b : List Entry) (st : State) → FollowAlike a b
      → lay o (settle o) (Append (Append z (Text s)) (Text t)) i m a st ≡ lay o (settle o) (Append z (Text (s ++ t))) i m b st
  unfolding lay
  after_laid z o i m a b st f =
      let before = entry i (Text s) ∷ entry i (Text t) ∷ a in
      then-then (lay o (settle o) z i m before st) (λ u. lay_text o (length s) s u) (λ u. lay_text o (length t) t u)
      ∙ then-same (lay o (settle o) z i m before st) (lay o (settle o) z i m (entry i (Text (s ++ t)) ∷ b) st)
      (λ u. and_then (lay_text o (length s) s u) (λ v. lay_text o (length t) t v)) (λ u. lay_text o (length (s ++ t)) (s ++ t) u)
      (lay_alike o (settle o) (breaks_read_alike o).1 z i m before (entry i (Text (s ++ t)) ∷ b) st (texts_follow i a b f))
      (λ u. texts_laid o i m a b u)

  never_text : (z : Tree) → IsNeverFlat (Append (Append z (Text s)) (Text t)) → IsNeverFlat (Append z (Text (s ++ t)))
  never_text z (inl (inl h)) = inl h
  never_text z (inl (inr h)) = absurd h
  never_text z (inr h) = absurd h

  after_same : (z : Tree) → IsSameLaid (Append (Append z (Text s)) (Text t)) (Append z (Text (s ++ t)))
  after_same z = record {
    nil = refl;
    looks = after_looks z;
    never = never_text z;
    laid = λ o i m a b st f. after_laid z o i m a b st f;
  }

  joined_same : (p : Bool) (z : Tree) → IsSameLaid (Append (joined p false z (Text s)) (Text t)) (joined p false z (Text (s ++ t)))
  joined_same true z = alone_same
  joined_same false z = after_same z

-- ---- words

first_of_two : (b : Bool) (x y : Tree) → b ≡ true → (if b then x else y) ≡ x
first_of_two true x y e = refl
first_of_two false x y e = absurd (cc)

plain_text : (b : ℕ) (s : List ℕ) → is_ascii (b ∷ s) ≡ true → counted.text (b ∷ s) ≡ Text (b ∷ s)
plain_text b s e = first_of_two (is_ascii (b ∷ s)) (Text (b ∷ s)) _ e

ascii_both : (s t : List ℕ) → is_ascii s ≡ true → is_ascii t ≡ true → is_ascii (s ++ t) ≡ true
ascii_both s t e f = list_all-append (λ b. nat_lt b 128) s t ∙ (λ i. e i && f i)

append_joined : (p : Bool) (z : Tree) (s t : List ℕ)
    → append (joined p false z (Text s)) (Text t) ≡ Append (joined p false z (Text s)) (Text t)
append_joined true z s t = refl
append_joined false z s t = refl

-- a word with another one beside it
before_word : (z : Tree) (a b : ℕ) (s t : List ℕ) → is_ascii (a ∷ s) ≡ true → is_ascii (b ∷ t) ≡ true
    → append (append z (counted.text (a ∷ s))) (counted.text (b ∷ t)) ≡ Append (joined (is_nil z) false z (Text (a ∷ s))) (Text (b ∷ t))
before_word z a b s t e f =
    (λ i. append (append z (plain_text a s e i)) (plain_text b t f i))
    ∙ ap (λ (y : Tree). append y (Text (b ∷ t))) (append_is z (Text (a ∷ s)))
    ∙ append_joined (is_nil z) z (a ∷ s) (b ∷ t)

one_word : (z : Tree) (a b : ℕ) (s t : List ℕ) → is_ascii (a ∷ s) ≡ true → is_ascii (b ∷ t) ≡ true
    → append z (counted.text ((a ∷ s) ++ (b ∷ t))) ≡ joined (is_nil z) false z (Text ((a ∷ s) ++ (b ∷ t)))
one_word z a b s t e f =
    ap (append z) (plain_text a (s ++ (b ∷ t)) (ascii_both (a ∷ s) (b ∷ t) e f)) ∙ append_is z (Text ((a ∷ s) ++ (b ∷ t)))

-- where a word is laid again after a document, and one beside it follows, the two are laid again as one word
pub again_joined : (x z : Tree) (m : Mode) (ms left : List Mode) (bits : List Bit) (a b : ℕ) (s t : List ℕ) → is_ascii (a ∷ s) ≡ true
    → is_ascii (b ∷ t) ≡ true → Again x (append z (counted.text (a ∷ s))) m ms left bits
    → Again (append x (counted.text (b ∷ t))) (append z (counted.text ((a ∷ s) ++ (b ∷ t)))) m ms left (bits ++ word_bits (b ∷ t))
again_joined x z m ms left bits a b s t e f h =
    let whole = append x (counted.text (b ∷ t)) in
    let first = joined (is_nil z) false z (Text (a ∷ s)) in
    let two = again_append x (append z (counted.text (a ∷ s))) (counted.text (b ∷ t)) (counted.text (b ∷ t)) m ms left left bits
    (word_bits (b ∷ t)) h (again_text (b ∷ t) m left) in
    subst (λ (y : Tree). Again whole y m ms left (bits ++ word_bits (b ∷ t))) (sym (one_word z a b s t e f))
    (again_then_same whole (Append first (Text (b ∷ t))) (joined (is_nil z) false z (Text ((a ∷ s) ++ (b ∷ t)))) m ms left
    (bits ++ word_bits (b ∷ t)) (joined_same (a ∷ s) (b ∷ t) (is_nil z) z)
    (subst (λ (y : Tree). Again whole y m ms left (bits ++ word_bits (b ∷ t))) (before_word z a b s t e f) two))

-- the same with a gap before the first word
pub again_joined_after : WordsAreJoined
again_joined_after gap.Nothing x z m ms left bits a b s t e f h = again_joined x z m ms left bits a b s t e f h
again_joined_after gap.Space x z m ms left bits a b s t e f h = again_joined x (append z _) m ms left bits a b s t e f h
again_joined_after gap.Beside x z m ms left bits a b s t e f h = again_joined x (append z _) m ms left bits a b s t e f h
again_joined_after gap.Edge x z m ms left bits a b s t e f h = again_joined x (append z _) m ms left bits a b s t e f h
again_joined_after gap.Line x z m ms left bits a b s t e f h = again_joined x (append z _) m ms left bits a b s t e f h
again_joined_after gap.Fill x z m ms left bits a b s t e f h = again_joined x (append z _) m ms left bits a b s t e f h
again_joined_after gap.BlankLine x z m ms left bits a b s t e f h = again_joined x (append (append z _) _) m ms left bits a b s t e f h
again_joined_after gap.Break x z m ms left bits a b s t e f h = again_joined x (append z _) m ms left bits a b s t e f h
again_joined_after gap.BlankBreak x z m ms left bits a b s t e f h = again_joined x (append (append z _) _) m ms left bits a b s t e f h

-- a lexeme of one line is a text
pub plain_lexeme : (s : List ℕ) → list_any is_line_feed_byte s ≡ false → lexeme_tree s ≡ counted.text s
plain_lexeme s e = ap (λ (b : Bool). broken_if b (counted.text s)) e

-- a word of one line, whose columns are its bytes
pub record IsPlainWord (s : List ℕ) : Type 0 where
  pub some : s ≡ [] → ⊥
  pub ascii : is_ascii s ≡ true
  pub line : list_any is_line_feed_byte s ≡ false

pub plain_words : (s t : List ℕ) → IsPlainWord s → IsPlainWord t → IsPlainWord (s ++ t)
plain_words [] t h k = k
plain_words (a ∷ s) t h k = record {
  some = λ e. absurd (cc);
  ascii = ascii_both (a ∷ s) t h.ascii k.ascii;
  line = list_any-append is_line_feed_byte (a ∷ s) t ∙ (λ i. h.line i || k.line i);
}

-- so are words that are parts
pub again_joined_words : (g : Gap) (x z : Tree) (m : Mode) (ms left : List Mode) (bits : List Bit) (s t : List ℕ) → IsPlainWord s
    → IsPlainWord t → Again x (separated g z (lexeme_tree s)) m ms left bits
    → Again (append x (lexeme_tree t)) (separated g z (lexeme_tree (s ++ t))) m ms left (bits ++ word_bits t)
again_joined_words g x z m ms left bits [] t e f h = absurd (e.some refl)
again_joined_words g x z m ms left bits (a ∷ s) [] e f h = absurd (f.some refl)
again_joined_words g x z m ms left bits (a ∷ s) (b ∷ t) e f h =
    let both = plain_words (a ∷ s) (b ∷ t) e f in
    let spelled = bits ++ word_bits (b ∷ t) in
    subst (λ (y : Tree). Again (append x y) (separated g z (lexeme_tree ((a ∷ s) ++ (b ∷ t)))) m ms left spelled)
    (sym (plain_lexeme (b ∷ t) f.line))
    (subst (λ (y : Tree). Again (append x (counted.text (b ∷ t))) (separated g z y) m ms left spelled)
    (sym (plain_lexeme ((a ∷ s) ++ (b ∷ t)) both.line))
    (again_joined_after g x z m ms left bits a b s t e.ascii f.ascii
    (subst (λ (y : Tree). Again x (separated g z y) m ms left bits) (plain_lexeme (a ∷ s) e.line) h)))
