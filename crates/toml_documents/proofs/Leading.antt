-- Documents whose spellings lead the grammar from one place to others.
use Rattle.std.proofs.Common.{◌≡◌, refl, sym, subst, ℕ, zero, suc, ℤ, pos, Bool, true, false, List, [], ◌∷◌, ◌++◌, inl, inr}
use Rattle.std.specs.Prelude.{if◌then◌else◌}
use Rattle.prettyless_trees.specs.Built.{append, append_to, group, nest, nest_by}
use Rattle.prettyless_trees.specs.Counted as counted
use Rattle.prettyless_trees.specs.Lines.{line, line_, space}
use Rattle.prettyless_model.specs.Tree.{Tree, Nil, Text, TextWithLen, MultilineText, HardLine, ExpandParent, BreakOrFlat, Append, Group}
use Rattle.prettyless_model.specs.Metrics.{is_ascii}
use Rattle.prettyless_model.specs.declared.mode.Mode.{Mode}
use Rattle.prettyless_model.specs.declared.mode.Mode.TheVariants.{Break, Flat}
use Rattle.toml_lexemes.proofs.WholeLexemes.{no_lexeme}
use Rattle.toml_grammar.specs.Grammar.{Reading}
use Rattle.toml_documents.specs.Documents.{broken_if, separated}
use Rattle.prettyless_laws.specs.Bits.{Bit, IsSpelled, end_of_line, text_of, word_bits}
use Rattle.toml_documents.specs.declared.gaps.Gap.{Gap}
use Rattle.toml_documents.specs.declared.gaps.Gap.TheVariants as gap
use Rattle.toml_documents.proofs.Written.{EndsLine, MayEnd, MaySpace, Place, Runs, Stands, after_space, at_line, place}

runs_both : (xs ys : List Bit) (a b c : Place) → Runs a xs b → Runs b ys c → Runs a (xs ++ ys) c
runs_both [] ys a b c e k = subst (λ (q : Place). Runs q ys c) (sym e) k
runs_both (end_of_line ∷ xs) ys a b c (r, may, ends, h) k = (r, may, ends, runs_both xs ys (place at_line r) b c h k)
runs_both (text_of s ∷ xs) ys a b c (d, st, h) k = (d, st, runs_both xs ys d b c h k)

-- each spelling in a mode leads from the place to one of these
abbrev pub LeadsIn : Mode → Place → Tree → (Place → Type 0) → Type 0
LeadsIn m a d Q = (bits : List Bit) → IsSpelled d m bits → (b : Place) × Runs a bits b × Q b

abbrev pub Leads : Place → Tree → (Place → Type 0) → Type 0
Leads a d Q = (m : Mode) → LeadsIn m a d Q

-- ---- trees

module _ (m : Mode) (a : Place) where
  in_nothing : (Q : Place → Type 0) → Q a → (bits : List Bit) → bits ≡ [] → (b : Place) × Runs a bits b × Q b
  in_nothing Q q bits e = (a, subst (λ (l : List Bit). Runs a l a) (sym e) refl, q)

  in_both : (x y : Tree) (P Q : Place → Type 0) → LeadsIn m a x P → ((b : Place) → P b → LeadsIn m b y Q) → LeadsIn m a (Append x y) Q
  in_both x y P Q h k bits (xs, ys, p, q, e) =
      let f = h xs p in
      let g = k f.0 f.2 ys q in
      (g.0, subst (λ (l : List Bit). Runs a l g.0) (sym e) (runs_both xs ys a f.0 g.0 f.1 g.1), g.2)

  in_append_to : (x y : Tree) (P Q : Place → Type 0) → LeadsIn m a x P → ((b : Place) → P b → LeadsIn m b y Q)
      → LeadsIn m a (append_to x y) Q
  in_append_to x Nil P Q h k = λ bits p.
      let f = h bits p in
      let g = k f.0 f.2 [] refl in
      (g.0, subst (Runs a bits) g.1 f.1, g.2)
  in_append_to x y P Q h k = in_both x y P Q h k

  pub in_append : (x y : Tree) (P Q : Place → Type 0) → LeadsIn m a x P → ((b : Place) → P b → LeadsIn m b y Q)
      → LeadsIn m a (append x y) Q
  in_append Nil y P Q h k = λ bits p.
      let f = h [] refl in
      let g = k f.0 f.2 bits p in
      (g.0, subst (λ (q : Place). Runs q bits g.0) (sym f.1) g.1, g.2)
  in_append x y P Q h k = in_append_to x y P Q h k

  in_text : (c : Place) (s : List ℕ) (Q : Place → Type 0) → Stands a s c → Q c → (bits : List Bit) → bits ≡ word_bits s
      → (b : Place) × Runs a bits b × Q b
  in_text c [] Q st q bits e = absurd (no_lexeme st.whole.alone)
  in_text c (x ∷ s) Q st q bits e = (c, subst (λ (l : List Bit). Runs a l c) (sym e) (c, inr st, refl), q)

  in_string : (c : Place) (b : Bool) (w : ℕ) (s : List ℕ) (Q : Place → Type 0) → Stands a s c → Q c
      → LeadsIn m a (if b then Text s else TextWithLen w s) Q
  in_string c true w s Q st q = in_text c s Q st q
  in_string c false w s Q st q = in_text c s Q st q

pub leads_nil : (a : Place) (Q : Place → Type 0) → Q a → Leads a Nil Q
leads_nil a Q q m bits e = in_nothing m a Q q bits e

pub leads_append : (a : Place) (x y : Tree) (P Q : Place → Type 0) → Leads a x P → ((b : Place) → P b → Leads b y Q)
    → Leads a (append x y) Q
leads_append a x y P Q h k m = in_append m a x y P Q (h m) (λ b p. k b p m)

pub leads_more : (a : Place) (x : Tree) (P Q : Place → Type 0) → Leads a x P → ((b : Place) → P b → Q b) → Leads a x Q
leads_more a x P Q h k m bits p = let f = h m bits p in (f.0, f.1, k f.0 f.2)

pub leads_counted : (a c : Place) (w : ℕ) (s : List ℕ) (Q : Place → Type 0) → Stands a s c → Q c → Leads a (TextWithLen w s) Q
leads_counted a c w s Q st q m = in_text m a c s Q st q

pub leads_text : (a c : Place) (s : List ℕ) (Q : Place → Type 0) → Stands a s c → Q c → Leads a (counted.text s) Q
leads_text a c [] Q st q = absurd (no_lexeme st.whole.alone)
leads_text a c (x ∷ s) Q st q = λ m. in_string m a c (is_ascii (x ∷ s)) _ (x ∷ s) Q st q

leads_expand : (a : Place) (Q : Place → Type 0) → Q a → Leads a ExpandParent Q
leads_expand a Q q m bits e = in_nothing m a Q q bits e

pub leads_broken : (b : Bool) (a : Place) (x : Tree) (Q : Place → Type 0) → Leads a x Q → Leads a (broken_if b x) Q
leads_broken true a x Q h = leads_append a x ExpandParent Q Q h (λ b q. leads_expand b Q q)
leads_broken false a x Q h = h

pub leads_either : (a : Place) (x y : Tree) (Q : Place → Type 0) → Leads a x Q → Leads a y Q → Leads a (BreakOrFlat x y) Q
leads_either a x y Q h k Break bits p = h Break bits p
leads_either a x y Q h k Flat bits p = k Flat bits p

leads_grouped : (a : Place) (x : Tree) (Q : Place → Type 0) → Leads a x Q → Leads a (Group x) Q
leads_grouped a x Q h Break bits (inl p) = h Break bits p
leads_grouped a x Q h Break bits (inr p) = h Flat bits p
leads_grouped a x Q h Flat bits p = h Flat bits p

pub leads_group : (a : Place) (x : Tree) (Q : Place → Type 0) → Leads a x Q → Leads a (group x) Q
leads_group a Nil Q h = h
leads_group a (Text s) Q h = h
leads_group a (TextWithLen w s) Q h = h
leads_group a (MultilineText s) Q h = h
leads_group a (Group x) Q h = h
leads_group a x Q h = leads_grouped a x Q h

leads_nest_by : (k : ℤ) (a : Place) (x : Tree) (Q : Place → Type 0) → Leads a x Q → Leads a (nest_by k x) Q
leads_nest_by k a Nil Q h = h
leads_nest_by k a x Q h = λ m bits p. h m bits p

pub leads_nest : (n : ℕ) (a : Place) (x : Tree) (Q : Place → Type 0) → Leads a x Q → Leads a (nest (pos n) x) Q
leads_nest zero a x Q h = h
leads_nest (suc n) a x Q h = leads_nest_by (pos (suc n)) a x Q h

-- ---- gaps

-- the line may end there, and leads to one of these
abbrev pub Lined : Place → (Place → Type 0) → Type 0
Lined a R = (r : Reading) × MayEnd a.touch × EndsLine a.reading r × R (place at_line r)

abbrev pub LinedTwice : Place → (Place → Type 0) → Type 0
LinedTwice a R = Lined a (λ c. Lined c R)

-- a space may stand there
abbrev pub Spaced : Place → (Place → Type 0) → Type 0
Spaced a R = MaySpace a.touch × R (place after_space a.reading)

-- the gap leads from the place to one of these
abbrev pub GapLeads : Gap → Place → (Place → Type 0) → Type 0
GapLeads gap.Nothing a R = R a
GapLeads gap.Space a R = Spaced a R
GapLeads gap.Beside a R = Spaced a R
GapLeads gap.Edge a R = Lined a R × R a
GapLeads gap.Line a R = Lined a R × Spaced a R
GapLeads gap.Fill a R = Lined a R × Spaced a R
GapLeads gap.BlankLine a R = LinedTwice a R × Spaced a R
GapLeads gap.Break a R = Lined a R
GapLeads gap.BlankBreak a R = LinedTwice a R

module _ (R : Place → Type 0) where
  in_space : (a : Place) → Spaced a R → (bits : List Bit) → bits ≡ word_bits (32 ∷ []) → (b : Place) × Runs a bits b × R b
  in_space a (may, r) bits e = (
    place after_space a.reading,
    subst (λ (l : List Bit). Runs a l (place after_space a.reading)) (sym e)
        (place after_space a.reading, inl (record { space = refl; may = may; place = refl }), refl),
    r,
  )

  pub in_hard : (m : Mode) (a : Place) → Lined a R → LeadsIn m a HardLine R
  in_hard m a (r, may, ends, q) bits e = (
    place at_line r,
    subst (λ (l : List Bit). Runs a l (place at_line r)) (sym e) (r, may, ends, refl),
    q,
  )

  in_edge : (m : Mode) (a : Place) → Lined a R × R a → LeadsIn m a line_ R
  in_edge Break a h = in_hard Break a h.0
  in_edge Flat a h = λ bits e. in_nothing Flat a R h.1 bits e

  in_line : (m : Mode) (a : Place) → Lined a R × Spaced a R → LeadsIn m a line R
  in_line Break a h = in_hard Break a h.0
  in_line Flat a h = in_space a h.1

  in_fill : (m : Mode) (a : Place) → Lined a R × Spaced a R → LeadsIn m a (Group line) R
  in_fill Break a h bits (inl p) = in_line Break a h bits p
  in_fill Break a h bits (inr p) = in_line Flat a h bits p
  in_fill Flat a h bits p = in_line Flat a h bits p

module _ (a : Place) (x y : Tree) (P R Q : Place → Type 0) (h : Leads a x P) (k : (c : Place) → R c → Leads c y Q) where
  in_around : (m : Mode) (g : Tree) → ((b : Place) → P b → LeadsIn m b g R) → LeadsIn m a (append (append x g) y) Q
  in_around m g f = in_append m a (append x g) y R Q (in_append m a x g P R (h m) f) (λ c r. k c r m)

  in_twice : (m : Mode) (g l : Tree) (S : Place → Type 0) → ((b : Place) → P b → LeadsIn m b g S) → ((b : Place) → S b → LeadsIn m b l R)
      → LeadsIn m a (append (append (append x g) l) y) Q
  in_twice m g l S f n =
      in_append m a (append (append x g) l) y R Q (in_append m a (append x g) l S R (in_append m a x g P S (h m) f) n) (λ c r. k c r m)

  blank_line : (m : Mode) → ((b : Place) → P b → LinedTwice b R × Spaced b R) → LeadsIn m a (append (append (append x line_) line) y) Q
  blank_line Break f =
      in_twice Break line_ line (λ c. Lined c R) (λ b p. in_hard (λ c. Lined c R) Break b (f b p).0) (λ b l. in_hard R Break b l)
  blank_line Flat f =
      in_twice Flat line_ line (λ c. Spaced c R) (λ b p. λ bits e. in_nothing Flat b (λ c. Spaced c R) (f b p).1 bits e)
      (λ b l. in_space R b l)

  -- two documents with a gap between them
  pub leads_separated : (g : Gap) → ((b : Place) → P b → GapLeads g b R) → Leads a (separated g x y) Q
  leads_separated gap.Nothing f = λ m. in_append m a x y P Q (h m) (λ b p. k b (f b p) m)
  leads_separated gap.Space f = λ m. in_around m space (λ b p. in_space R b (f b p))
  leads_separated gap.Beside f = λ m. in_around m (TextWithLen 0 (32 ∷ [])) (λ b p. in_space R b (f b p))
  leads_separated gap.Edge f = λ m. in_around m line_ (λ b p. in_edge R m b (f b p))
  leads_separated gap.Line f = λ m. in_around m line (λ b p. in_line R m b (f b p))
  leads_separated gap.Fill f = λ m. in_around m (Group line) (λ b p. in_fill R m b (f b p))
  leads_separated gap.BlankLine f = λ m. blank_line m f
  leads_separated gap.Break f = λ m. in_around m HardLine (λ b p. in_hard R m b (f b p))
  leads_separated gap.BlankBreak f = λ m.
      in_twice m HardLine HardLine (λ c. Lined c R) (λ b p. in_hard (λ c. Lined c R) m b (f b p)) (λ b l. in_hard R m b l)
