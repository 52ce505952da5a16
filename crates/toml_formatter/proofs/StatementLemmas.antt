-- Statements, lexeme by lexeme.
use Rattle.std.proofs.Common.{◌≡◌, refl, sym, ◌∙◌, ap, subst, ℕ, Bool, true, false, List, [], ◌∷◌, ◌++◌, inl, inr, Bor}
use Rattle.prettyless_model.specs.Tree.{Tree}
use Rattle.prettyless_pointers.specs.Trees.{ref_tree}
use Rattle.prettyless_pointers.specs.declared.arena.RefDoc.{RefDoc}
use Rattle.prettyless_model.specs.Shows as shown
use Rattle.prettyless_model.specs.Shows.{Shown, more, shows}
use Rattle.prettyless_shapes.specs.Items.{ShowsBoth}
use Rattle.toml_lexemes.specs.Bytes.{comma, hash, head}
use Rattle.toml_lexemes.specs.View.{toml_text_of}
use Rattle.toml_lexemes.specs.declared.lexeme.Lexeme.{Lexeme}
use Rattle.toml_lexemes.specs.declared.lexeme.Lexeme.TheVariants as lexeme
use Rattle.toml_lexemes.specs.Statements.{trimmed, Collected, with_lexeme, with_lexemes}
use Rattle.toml_lexemes.specs.Shown.{Stage, IsWholeLexeme, IsReady}
use Rattle.toml_documents.specs.declared.gaps.Gap.TheVariants as gap
use Rattle.toml_documents.specs.declared.kind.Last.{Last}
use Rattle.toml_documents.specs.declared.kind.Last.TheVariants as last
use Rattle.toml_formatter.specs.declared.line.Line.{Line}
use Rattle.toml_documents.specs.Gaps.{least_needed, is_last_comment}
use Rattle.toml_documents.specs.Kinds.{is_closing, IsPart}
use Rattle.toml_lexemes.specs.Sound.{LineEndsNext}
use Rattle.toml_formatter.specs.Lines.{directly_after, before_next, EndsCollected, WaitingComments, waiting, LineRead, ShowsTaken}
use Rattle.toml_formatter.specs.Lines.{ValueRead, IsValue, ClosedRead, IsClosed, TakesMore, MayGoOn, begun, StatementRead, IsStatement}
use Rattle.toml_formatter.proofs.Stages.{read_both, MayFollow, text_read}
use Rattle.toml_formatter.proofs.LineLemmas.{comma_is_whole, hash_ends, trimmed_head, trimmed_read, IsSettled}
use Rattle.toml_formatter.proofs.Values.{closing_ends, closing_head, closing_role, closing_whole, ShowsClosing}

outside_brackets : {P : Type 0} → false ≡ true → P
outside_brackets e = absurd (cc)

-- a lexeme alone begins a line
pub text_begins : (doc : RefDoc) (l : Last) (s t : List ℕ) (left : List (List ℕ)) → shows (ref_tree doc) (Shown t ∷ []) → IsWholeLexeme t
    → ((c : Collected) → with_lexeme c t ≡ with_lexeme c s) → ((c : Collected) → EndsCollected false l (with_lexeme c t) t)
    → ShowsTaken false true (begun doc l) left (s ∷ [])
text_begins doc l s t left h whole same ends = record {
  items = Shown t ∷ [];
  comment_items = Shown t ∷ [];
  rs = [];
  shown = h;
  comments_shown = h;
  comments = refl;
  read = λ a ready. record {
    collected = with_lexeme (before_next a) t;
    text = t;
    read = (whole, ready t, refl);
    same = sym (same (before_next a));
    ends = inr (ends (before_next a));
    level = inr outside_brackets;
  };
}

pub comma_begins : (doc : RefDoc) (left : List (List ℕ)) → shows (ref_tree doc) (Shown (comma ∷ []) ∷ [])
    → ShowsTaken false true (begun doc last.Comma) left ((comma ∷ []) ∷ [])
comma_begins doc left h =
    text_begins doc last.Comma (comma ∷ []) (comma ∷ []) left h comma_is_whole (λ c. refl)
    (λ c. record { needs = λ u. refl; plain = tt; inside = tt })

pub comment_begins : (doc : RefDoc) (r : List ℕ) (left : List (List ℕ)) → head r ≡ hash → IsWholeLexeme (trimmed r)
    → shows (ref_tree doc) (Shown (trimmed r) ∷ [])
    → ShowsTaken false true (begun doc last.Comment) left (r ∷ [])
comment_begins doc r left e whole h =
    text_begins doc last.Comment r (trimmed r) left h whole (λ c. trimmed_read c r e whole)
    (λ c. record { needs = hash_ends (trimmed r) (trimmed_head r e); plain = tt; inside = tt })

pub bracket_begins : {x : Lexeme} {left : List (List ℕ)} (doc : RefDoc) → ShowsClosing x left (ref_tree doc)
    → ShowsTaken false true (begun doc last.Close) left (toml_text_of x ∷ [])
bracket_begins {x} {left} doc closer =
    text_begins doc last.Close (toml_text_of x) (toml_text_of x) left closer.shown
    (closing_whole x left closer.closes closer.sound) (λ c. refl) (closing_ends x closer.closes)

pub value_begins : (doc : RefDoc) (l : Last) (s : List ℕ) (left vs : List (List ℕ)) → IsWholeLexeme s → IsValue l s left vs (ref_tree doc)
    → ShowsTaken false true (begun doc l) left (s ∷ vs)
value_begins doc l s left vs whole v = record {
  items = Shown s ∷ v.items;
  comment_items = Shown s ∷ v.items;
  rs = [];
  shown = v.shown;
  comments_shown = v.shown;
  comments = refl;
  read = λ a ready. one a ready (v.read (before_next a));
}
  where
    one : (a : Stage) → IsReady a → ValueRead l s left vs v.items (before_next a) → LineRead false true (begun doc l) left (s ∷ vs)
        (Shown s ∷ v.items) [] a
    one a ready w = record {
      collected = w.collected;
      text = w.text;
      read = (whole, ready s, w.read);
      same = sym w.same;
      ends = elim w.ends [ inl e ↦ inl (e, refl, refl) | inr e ↦ inr e.0 ];
      level = inr outside_brackets;
    }

nothing_needed : (l : Last) → is_last_comment l ≡ false → least_needed l 93 ≡ shown.Nothing
nothing_needed last.Start e = refl
nothing_needed last.Close e = refl
nothing_needed last.Equals e = refl
nothing_needed last.Word e = refl
nothing_needed last.Dot e = refl
nothing_needed last.String e = refl
nothing_needed last.Comma e = refl
nothing_needed last.Comment e = absurd (cc)

-- a bracket that closes nothing
pub bracket_taken : {line : Line} {d : Tree} {x : Lexeme} {left taken : List (List ℕ)} (doc : RefDoc)
    → ShowsClosing x left d → is_last_comment line.last ≡ false → ShowsBoth (ref_tree line.doc) [] d (ref_tree doc)
    → IsClosed false line (toml_text_of x) taken
    → ShowsTaken false true (begun doc last.Close) left (taken ++ toml_text_of x ∷ [])
bracket_taken {line} {x = x} {left = left} {taken = taken} doc closer plain both h = record {
  items = h.items ++ Shown (toml_text_of x) ∷ [];
  comment_items = h.items ++ Shown (toml_text_of x) ∷ [];
  rs = [];
  shown = both h.items (Shown (toml_text_of x) ∷ []) h.shown closer.shown;
  comments_shown = both h.items (Shown (toml_text_of x) ∷ []) h.shown closer.shown;
  comments = refl;
  read = λ a ready. one a (h.read a ready);
}
  where
    needed : more (least_needed line.last (head (toml_text_of x))) shown.Nothing ≡ shown.Nothing
    needed = rw (closing_head x closer.closes line.last, nothing_needed line.last plain) refl

    one : (a : Stage) → ClosedRead false line (toml_text_of x) taken h.items a → LineRead false true (begun doc last.Close) left
        (taken ++ toml_text_of x ∷ []) (h.items ++ Shown (toml_text_of x) ∷ []) [] a
    one a r =
        let k = with_lexeme r.collected (toml_text_of x) in
        let next : MayFollow false line.last r.collected r.text r.marked gap.Nothing (toml_text_of x) = record {
          ends = r.needs;
          inside = tt;
          suits = record { enough = needed; stays = λ e. refl };
          whole = closing_whole x left closer.closes closer.sound;
          closing = λ e. closing_role x closer.closes;
        } in
        record {
          collected = k;
          text = toml_text_of x;
          read = read_both a (record { collected = r.collected; last = r.text; place = shown.after_text; marked = r.marked })
              (directly_after k (toml_text_of x)) h.items (Shown (toml_text_of x) ∷ []) r.read
              (text_read [] (directly_after k (toml_text_of x)) next refl);
          same = r.same;
          ends = inr (closing_ends x closer.closes r.collected);
          level = inr outside_brackets;
        }

-- the end of a statement
pub line_is_statement : (line : Line) (left taken : List (List ℕ)) → IsSettled line
    → ShowsTaken false true line left taken → IsStatement taken (ref_tree line.doc)
line_is_statement line left taken settled h = record {
  items = h.items;
  shown = h.shown;
  read = λ a ready. one a (h.read a ready);
}
  where
    no_comments : h.rs ≡ []
    no_comments = subst (λ (w : Bool). WaitingComments w false line.last h.rs h.comment_items) settled.no_comments h.comments

    one : (a : Stage) → LineRead false true line left taken h.items h.rs a → StatementRead taken h.items a
    one a r = record {
      collected = r.collected;
      text = r.text;
      read = r.read;
      same = r.same ∙ ap (λ (w : Bool). with_lexemes r.collected (waiting w h.rs)) settled.no_comma
          ∙ ap (λ (rs : List (List ℕ)). with_lexemes r.collected rs) no_comments;
    }

pub may_settle : (line : Line) (left : List (List ℕ)) → MayGoOn line left → false ≡ false → line.comma ≡ true →
    is_last_comment line.last ≡ false
may_settle line left h e k = elim h [ inl g ↦ g.1 | inr g ↦ g.0 k ]

pub goes_on : (line : Line) (left : List (List ℕ)) → (LineEndsNext left → ⊥) → MayGoOn line left → TakesMore false line
goes_on line left none h = elim h [ inl g ↦ g | inr g ↦ absurd (none g.1) ]

-- what closes no list and is no comma, comment or line end is a part of a statement
pub part_of : (x : Lexeme) (ls : List (List ℕ)) → (LineEndsNext (toml_text_of x ∷ ls) → ⊥) → is_closing x ≡ false → (x ≡ lexeme.Comma → ⊥)
    → ((r : Bor (List ℕ)) → x ≡ lexeme.Comment r → ⊥) → IsPart x
part_of lexeme.OpenArray ls n e p q = tt
part_of lexeme.OpenTable ls n e p q = tt
part_of lexeme.Equals ls n e p q = tt
part_of (lexeme.String s) ls n e p q = tt
part_of (lexeme.Word s) ls n e p q = tt
part_of lexeme.CloseArray ls n e p q = absurd (cc)
part_of lexeme.CloseTable ls n e p q = absurd (cc)
part_of lexeme.Comma ls n e p q = absurd (p refl)
part_of lexeme.LineEnd ls n e p q = absurd (n (inr (ls, refl)))
part_of (lexeme.Comment s) ls n e p q = absurd (q s refl)
