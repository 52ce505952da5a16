-- Lines, step by step.
use Rattle.std.proofs.Common.{◌≡◌, refl, sym, ◌∙◌, ap, subst, ℕ, Bool, true, false, List, [], ◌∷◌, ◌++◌, arith}
use Rattle.std.specs.Prelude.{◌⊎◌}
use Rattle.std.proofs.Common.{inl, inr}
use Rattle.prettyless_model.specs.Tree.{Tree}
use Rattle.prettyless_pointers.specs.Trees.{ref_tree}
use Rattle.prettyless_pointers.specs.declared.arena.RefDoc.{RefDoc}
use Rattle.prettyless_model.specs.Shows as shown
use Rattle.prettyless_model.specs.Shows.{Item, Shown, Mark, LineEnd, more, shows}
use Rattle.prettyless_shapes.specs.Items.{ShowsBoth, ShowsMore}
use Rattle.prettyless_laws.specs.Shown.{text_items}
use Rattle.toml_lexemes.specs.Bytes.{comma, hash, head, line_feed}
use Rattle.text_lexemes.specs.Languages.{cut}
use Rattle.toml_lexemes.specs.Statements.{Role, a_comment, a_closing, role, trimmed, before_trimmed, Collected, line_ended, with_lexeme}
use Rattle.toml_lexemes.specs.Statements.{with_lexemes}
use Rattle.toml_lexemes.specs.Shown.{Stage, IsWholeLexeme, EndsWell, AreRead, least_between}
use Rattle.toml_documents.specs.declared.gaps.Gap.{Gap as Between}
use Rattle.toml_documents.specs.declared.kind.Last.{Last}
use Rattle.toml_documents.specs.declared.kind.Last.TheVariants as last
use Rattle.toml_formatter.specs.declared.line.Line.{Line}
use Rattle.toml_documents.specs.Gaps.{gap_items, least_of, stays, least_needed, Suits, is_last_comment, may_hold}
use Rattle.toml_formatter.specs.Lines.{directly_after, before_next, IsNested, EndsAs, EndsCollected, Agrees, AreComments, ReadsComments}
use Rattle.toml_formatter.specs.Lines.{WaitingComments, HoldsNothing, HoldsNothingAfter, waiting, IsOver, LineRead, ShowsTaken, IsValue}
use Rattle.toml_formatter.specs.Lines.{ClosedRead, IsClosed, TakesMore, begun}
use Rattle.toml_formatter.proofs.Stages.{read_both, with_both, inside_line, MayFollow, text_read, with_comment, waiting_depth}
use Rattle.toml_formatter.proofs.Stages.{comments_depth, waiting_comments, waiting_more, comments_more, nested_along, waiting_agrees}
use Rattle.toml_formatter.proofs.Stages.{agrees_then, closing_same, comma_passes}

-- ---- texts

clash : {b : Bool} → b ≡ true → b ≡ false → ⊥
clash p q = cc

pub comma_is_whole : IsWholeLexeme (comma ∷ [])
unfolding cut
comma_is_whole = record { alone = refl; ends = record { ended = tt; apart = λ h. absurd (cc) } }

-- a text that begins with `#`
pub begins_comment : (s : List ℕ) → head s ≡ hash → (t : List ℕ) × (s ≡ hash ∷ t)
begins_comment [] h = absurd (omega arith)
begins_comment (x ∷ xs) h = (xs, ap (λ (y : ℕ). y ∷ xs) h)

trimmed_hash : (t : List ℕ) → head (before_trimmed hash t) ≡ hash
trimmed_hash [] = refl
trimmed_hash (y ∷ ys) = refl

pub trimmed_head : (s : List ℕ) → head s ≡ hash → head (trimmed s) ≡ hash
trimmed_head s h =
    let b = begins_comment s h in
    ap (λ (x : List ℕ). head (trimmed x)) b.1 ∙ trimmed_hash (trimmed b.0)

pub hash_role : (s : List ℕ) → head s ≡ hash → role s ≡ a_comment
hash_role s h = let b = begins_comment s h in ap role b.1

pub hash_ends : (s : List ℕ) → head s ≡ hash → EndsAs last.Comment s
hash_ends s h u = let b = begins_comment s h in ap (λ (x : List ℕ). least_between x u) b.1

-- reading a comment is reading it without the blanks at its end
pub trimmed_read : (c : Collected) (s : List ℕ) → head s ≡ hash → IsWholeLexeme (trimmed s)
    → with_lexeme c (trimmed s) ≡ with_lexeme c s
trimmed_read c s h whole =
    let trimmed_role = hash_role (trimmed s) (trimmed_head s h) in
    let twice : trimmed (trimmed s) ≡ trimmed s = subst (λ (r : Role). EndsWell r (trimmed s)) trimmed_role whole.ends in
    with_comment c (trimmed s) trimmed_role
    ∙ ap (λ (x : List ℕ). record c { comments = c.comments ++ x ∷ [] }) twice
    ∙ sym (with_comment c s (hash_role s h))

-- ---- what waits

-- neither a comma nor a comment waits
pub record IsSettled (line : Line) : Type 0 where
  pub no_comma : line.comma ≡ false
  pub no_comments : line.is_commented ≡ false

-- comments may wait after a comma too
after_comma : (flag nested : Bool) (l : Last) (rs : List (List ℕ)) (items : List Item) → WaitingComments flag nested l rs items
    → WaitingComments flag nested last.Comma rs items
after_comma true nested l rs items h = (h.0, λ c t e. h.1 c t (elim e [ inl p ↦ inr p | inr p ↦ inr p ]))
after_comma false nested l rs items h = h

holds_nothing : (l : Last) (c : Collected) → may_hold l ≡ false → HoldsNothingAfter l c → HoldsNothing c
holds_nothing last.Start c e h = h
holds_nothing last.Close c e h = h
holds_nothing last.Equals c e h = h
holds_nothing last.Word c e h = h
holds_nothing last.Dot c e h = h
holds_nothing last.String c e h = h
holds_nothing last.Comma c e h = absurd (cc)
holds_nothing last.Comment c e h = absurd (cc)

-- a line is not over where a lexeme is left
not_over : (line : Line) (s : List ℕ) (left : List (List ℕ)) {P : Type 0} → IsOver line (s ∷ left) → P
not_over line s left h = absurd (empty h.0)
  where
    empty : s ∷ left ≡ [] → ⊥
    empty e = cc

-- ---- steps

pub no_lexeme : (doc : RefDoc) (left : List (List ℕ)) → shows (ref_tree doc) [] → ShowsTaken true true (begun doc last.Start) left []
no_lexeme doc left h = record {
  items = [];
  comment_items = [];
  rs = [];
  shown = h;
  comments_shown = h;
  comments = refl;
  read = λ a b. record {
    collected = b.0;
    text = b.1;
    read = b.2;
    same = ap before_next b.2;
    ends = inr b.3;
    level =
        inr (λ e. ap (λ (x : Stage). (before_next x).depth) (sym b.2));
  };
}

-- where a lexeme is left, the line ends as it says
line_ends : {nested exact : Bool} {line : Line} {s : List ℕ} {left taken : List (List ℕ)} {items : List Item}
    {rs : List (List ℕ)} {a : Stage}
    → (r : LineRead nested exact line (s ∷ left) taken items rs a) → EndsCollected nested line.last r.collected r.text
line_ends {line = line} {s = s} {left = left} r = elim r.ends [ inl o ↦ not_over line s left o | inr e ↦ e ]

line_level : {nested exact : Bool} {line : Line} {s : List ℕ} {left taken : List (List ℕ)} {items : List Item}
    {rs : List (List ℕ)} {a : Stage}
    → (r : LineRead nested exact line (s ∷ left) taken items rs a) → nested ≡ true → r.collected.depth ≡ (before_next a).depth
line_level {line = line} {s = s} {left = left} r = elim r.level [ inl o ↦ not_over line s left o | inr e ↦ e ]

-- what waits leaves brackets open
waiting_nested : (nested : Bool) (line : Line) (l : Last) (rs : List (List ℕ)) (items : List Item) (c : Collected)
    → WaitingComments line.is_commented nested l rs items
    → IsNested nested c → IsNested nested (with_lexemes c (waiting line.comma rs))
waiting_nested nested line l rs items c w h =
    nested_along nested c (with_lexemes c (waiting line.comma rs))
    (waiting_depth line.comma c rs (waiting_comments line.is_commented nested l rs items w)) h

pub line_end_taken : (line : Line) (p q : Bool) (left taken : List (List ℕ))
    → ShowsTaken true true line ((line_feed ∷ []) ∷ left) taken
    → ShowsTaken true true (record line { broken = p; blank = q }) left (taken ++ (line_feed ∷ []) ∷ [])
line_end_taken line p q left taken h = record {
  items = h.items;
  comment_items = h.comment_items;
  rs = h.rs;
  shown = h.shown;
  comments_shown = h.comments_shown;
  comments = h.comments;
  read = λ a b. one a (h.read a b);
}
  where
    one : (a : Stage) → LineRead true true line ((line_feed ∷ []) ∷ left) taken h.items h.rs a
        → LineRead true true (record line { broken = p; blank = q }) left (taken ++ (line_feed ∷ []) ∷ []) h.items h.rs a
    one a r =
        let ends = line_ends r in
        let deep = waiting_nested true line line.last h.rs h.comment_items r.collected h.comments ends.inside in
        record {
          collected = r.collected;
          text = r.text;
          read = r.read;
          same = with_both (before_next a) taken ((line_feed ∷ []) ∷ []) ∙ ap line_ended r.same
              ∙ inside_line (with_lexemes r.collected (waiting line.comma h.rs)) deep;
          ends = inr ends;
          level = inr (line_level r);
        }

-- the comma that waits is shown
pub comma_shown : {nested exact : Bool} {line : Line} {left taken : List (List ℕ)} {gap : Between}
    (x : Tree) (doc : RefDoc) → line.comma ≡ true → shows x (Shown (comma ∷ []) ∷ [])
    → ShowsBoth (ref_tree line.doc) (gap_items gap) x (ref_tree doc) → Suits nested line.last comma gap
    → ShowsTaken nested exact line left taken
    → ShowsTaken nested exact (record line { doc = doc; last = last.Comma; comma = false }) left taken
comma_shown {nested} {exact} {line} {left} {taken} {gap} x doc waits x_shows both suits h = record {
  items = h.items ++ (gap_items gap ++ Shown (comma ∷ []) ∷ []);
  comment_items = h.comment_items;
  rs = h.rs;
  shown = both h.items (Shown (comma ∷ []) ∷ []) h.shown x_shows;
  comments_shown = h.comments_shown;
  comments = after_comma line.is_commented nested line.last h.rs h.comment_items h.comments;
  read = λ a b. one a (h.read a b);
}
  where
    one : (a : Stage) → LineRead nested exact line left taken h.items h.rs a
        → LineRead nested exact (record line { doc = doc; last = last.Comma; comma = false }) left taken
        (h.items ++ (gap_items gap ++ Shown (comma ∷ []) ∷ [])) h.rs a
    one a r =
        let c = r.collected in
        let ends : EndsCollected nested line.last c r.text = elim r.ends [ inl o ↦ absurd (clash waits o.1) | inr e ↦ e ] in
        let k = with_lexeme c (comma ∷ []) in
        let next : MayFollow nested line.last c r.text false gap (comma ∷ []) = record {
          ends = ends.needs;
          inside = ends.inside;
          suits = suits;
          whole = comma_is_whole;
          closing = λ e. absurd (clash e refl);
        } in
        record {
          collected = k;
          text = comma ∷ [];
          read = read_both a (directly_after c r.text) (directly_after k (comma ∷ [])) h.items
              (gap_items gap ++ Shown (comma ∷ []) ∷ []) r.read
              (text_read [] (directly_after k (comma ∷ [])) next refl);
          same = agrees_then exact (with_lexemes (before_next a) taken) (with_lexemes c (waiting line.comma h.rs))
              (with_lexemes k h.rs) r.same
              (ap (λ (w : Bool). with_lexemes c (waiting w h.rs)) waits);
          ends = inr (record { needs = λ u. refl; plain = tt; inside = nested_along nested c k (waiting_depth true c [] tt) ends.inside });
          level = elim r.level [ inl o ↦ absurd (clash waits o.1) | inr e ↦ inr (λ n. waiting_depth true c [] tt ∙ e n) ];
        }

-- the comments that wait are shown
pub comments_shown : (nested exact : Bool) (line : Line) (left taken : List (List ℕ)) (doc : RefDoc)
    → line.comma ≡ false → line.is_commented ≡ true → ShowsBoth (ref_tree line.doc) [] (ref_tree line.comments) (ref_tree doc)
    → ShowsTaken nested exact line left taken
    → ShowsTaken nested exact (record line { doc = doc; last = last.Comment; is_commented = false }) left taken
comments_shown nested exact line left taken doc settled waits both h = record {
  items = h.items ++ h.comment_items;
  comment_items = h.comment_items;
  rs = [];
  shown = both h.items h.comment_items h.shown h.comments_shown;
  comments_shown = h.comments_shown;
  comments = refl;
  read = λ a b. one a (h.read a b);
}
  where
    held : AreComments h.rs × ReadsComments nested line.last h.rs h.comment_items
    held = subst (λ (w : Bool). WaitingComments w nested line.last h.rs h.comment_items) waits h.comments

    one : (a : Stage) → LineRead nested exact line left taken h.items h.rs a
        → LineRead nested exact (record line { doc = doc; last = last.Comment; is_commented = false }) left taken
        (h.items ++ h.comment_items) [] a
    one a r =
        let c = r.collected in
        let ends : EndsCollected nested line.last c r.text = elim r.ends [ inl o ↦ absurd (clash waits o.2) | inr e ↦ e ] in
        let k = with_lexemes c h.rs in
        let shown = held.1 c r.text (inl ends.needs) ends.inside in
        record {
          collected = k;
          text = shown.0;
          read = read_both a (directly_after c r.text) (directly_after k shown.0) h.items h.comment_items r.read shown.1;
          same = agrees_then exact (with_lexemes (before_next a) taken) (with_lexemes c (waiting line.comma h.rs))
              (with_lexemes k (waiting line.comma [])) r.same
              (ap (λ (w : Bool). with_lexemes c (waiting w h.rs)) settled
              ∙ sym (ap (λ (w : Bool). with_lexemes k (waiting w [])) settled));
          ends = inr (record { needs = shown.2; plain = tt; inside = nested_along nested c k (comments_depth c h.rs held.0) ends.inside });
          level = elim r.level [ inl o ↦ absurd (clash waits o.2) | inr e ↦ inr (λ n. comments_depth c h.rs held.0 ∙ e n) ];
        }

-- a comma is taken where none waits, and none of what waits was shown
comma_held : (nested : Bool) (line : Line) (p q : Bool) (left taken : List (List ℕ)) → line.comma ≡ false
    → may_hold line.last ≡ false
    → ShowsTaken nested true line ((comma ∷ []) ∷ left) taken
    → ShowsTaken nested true (record line { comma = true; broken = p; blank = q }) left (taken ++ (comma ∷ []) ∷ [])
comma_held nested line p q left taken none plain h = record {
  items = h.items;
  comment_items = h.comment_items;
  rs = h.rs;
  shown = h.shown;
  comments_shown = h.comments_shown;
  comments = h.comments;
  read = λ a b. one a (h.read a b);
}
  where
    one : (a : Stage) → LineRead nested true line ((comma ∷ []) ∷ left) taken h.items h.rs a
        → LineRead nested true (record line { comma = true; broken = p; blank = q }) left (taken ++ (comma ∷ []) ∷ []) h.items h.rs a
    one a r =
        let c = r.collected in
        let ends = line_ends r in
        let nothing = holds_nothing line.last c plain ends.plain in
        let comments = waiting_comments line.is_commented nested line.last h.rs h.comment_items h.comments in
        record {
          collected = c;
          text = r.text;
          read = r.read;
          same = with_both (before_next a) taken ((comma ∷ []) ∷ [])
              ∙ ap (λ (y : Collected). with_lexeme y (comma ∷ [])) (r.same
              ∙ ap (λ (w : Bool). with_lexemes c (waiting w h.rs)) none)
              ∙ comma_passes c h.rs nothing.0 comments;
          ends = inr ends;
          level = inr (line_level r);
        }

-- a comma is taken where nothing waits
comma_alone : (nested : Bool) (line : Line) (p q : Bool) (left taken : List (List ℕ)) → line.comma ≡ false
    → line.is_commented ≡ false
    → ShowsTaken nested true line ((comma ∷ []) ∷ left) taken
    → ShowsTaken nested true (record line { comma = true; broken = p; blank = q }) left (taken ++ (comma ∷ []) ∷ [])
comma_alone nested line p q left taken none alone h = record {
  items = h.items;
  comment_items = h.comment_items;
  rs = h.rs;
  shown = h.shown;
  comments_shown = h.comments_shown;
  comments = h.comments;
  read = λ a b. one a (h.read a b);
}
  where
    no_comments : h.rs ≡ []
    no_comments = subst (λ (w : Bool). WaitingComments w nested line.last h.rs h.comment_items) alone h.comments

    one : (a : Stage) → LineRead nested true line ((comma ∷ []) ∷ left) taken h.items h.rs a
        → LineRead nested true (record line { comma = true; broken = p; blank = q }) left (taken ++ (comma ∷ []) ∷ []) h.items h.rs a
    one a r =
        let c = r.collected in
        record {
          collected = c;
          text = r.text;
          read = r.read;
          same = with_both (before_next a) taken ((comma ∷ []) ∷ [])
              ∙ ap (λ (y : Collected). with_lexeme y (comma ∷ []))
              (r.same ∙ ap (λ (w : Bool). with_lexemes c (waiting w h.rs)) none
              ∙ ap (λ (rs : List (List ℕ)). with_lexemes c rs) no_comments)
              ∙ sym (ap (λ (rs : List (List ℕ)). with_lexemes c (waiting true rs)) no_comments);
          ends = inr (line_ends r);
          level = inr (line_level r);
        }

-- a comma is taken, where nothing waits or none of what waits was shown
pub comma_taken : (nested : Bool) (line : Line) (p q : Bool) (left taken : List (List ℕ)) → line.comma ≡ false
    → (line.is_commented ≡ false) ⊎ (may_hold line.last ≡ false) → ShowsTaken nested true line ((comma ∷ []) ∷ left) taken
    → ShowsTaken nested true (record line { comma = true; broken = p; blank = q }) left (taken ++ (comma ∷ []) ∷ [])
comma_taken nested line p q left taken none e h =
    elim e [
      | inl alone ↦ comma_alone nested line p q left taken none alone h
      | inr plain ↦ comma_held nested line p q left
          taken none plain h
    ]

-- ---- a comment

-- a comment after a gap, where comments were read before it or not
module _ (nested : Bool) (l : Last) (gap : Between) (comment : List ℕ) (is : head comment ≡ hash)
    (whole : IsWholeLexeme (trimmed comment)) where
  comment_read : (m : Last) (c : Collected) (t : List ℕ) → EndsAs m t → IsNested nested c
      → more (least_needed m hash) (least_of gap) ≡ least_of gap
      → (nested ≡ false → stays gap ≡ true)
      → AreRead (directly_after c t) (gap_items gap ++ Shown (trimmed comment) ∷ []) (directly_after (with_lexeme c comment)
      (trimmed comment))
  comment_read m c t ends inside enough stays_there =
      let next : MayFollow nested m c t false gap (trimmed comment) = record {
        ends = ends;
        inside = inside;
        suits = record {
          enough =
              subst (λ (y : ℕ). more (least_needed m y) (least_of gap) ≡ least_of gap) (sym (trimmed_head comment is))
              enough;
          stays = stays_there;
        };
        whole = whole;
        closing = λ e. absurd (clash e refl);
      } in
      text_read [] (directly_after (with_lexeme c comment) (trimmed comment)) next
      (ap (λ (x : Collected). directly_after x (trimmed comment)) (trimmed_read c comment is whole))

  -- the first that waits
  first_comment : more (least_needed l hash) (least_of gap) ≡ least_of gap → (nested ≡ false → stays gap ≡ true)
      → ReadsComments nested l (comment ∷ []) (gap_items gap ++ Shown (trimmed comment) ∷ [])
  first_comment enough stays_there c t e inside = (
    trimmed comment,
    elim e [
      | inl p ↦ comment_read l c t p inside enough stays_there
      | inr p ↦ comment_read last.Comma c t p inside refl stays_there
    ],
    hash_ends (trimmed comment) (trimmed_head comment is),
  )

  -- one more
  more_comments : (rs : List (List ℕ)) (items : List Item) → AreComments rs → ReadsComments nested l rs items
      → least_of gap ≡ LineEnd
      → (nested ≡ false → stays gap ≡ true)
      → ReadsComments nested l (rs ++ comment ∷ []) (items ++ (gap_items gap ++ Shown (trimmed comment) ∷ []))
  more_comments rs items are h enough stays_there c t e inside =
      let before = h c t e inside in
      let k = with_lexemes c rs in
      let deep = nested_along nested c k (comments_depth c rs are) inside in
      let line_end : more LineEnd (least_of gap) ≡ least_of gap = rw enough refl in
      let next = comment_read last.Comment k before.0 before.2 deep line_end stays_there in (
        trimmed comment,
        subst (λ (x : Collected). AreRead (directly_after c t) (items ++ (gap_items gap ++ Shown (trimmed comment) ∷ []))
            (directly_after x (trimmed comment)))
            (sym (with_both c rs (comment ∷ [])))
            (read_both (directly_after c t) (directly_after k before.0) (directly_after (with_lexeme k comment) (trimmed comment)) items
            (gap_items gap ++ Shown (trimmed comment) ∷ []) before.1 next),
        hash_ends (trimmed comment) (trimmed_head comment is),
      )

  module _ (line : Line) (p q : Bool) (doc : RefDoc) (front x : Tree) where
    -- the line with the comment among those that wait
    with_items : (left taken : List (List ℕ)) → (h : ShowsTaken nested true line (comment ∷ left) taken) → (items : List Item)
        → shows (ref_tree doc) items
        → AreComments (h.rs ++ comment ∷ []) × ReadsComments nested line.last (h.rs ++ comment ∷ []) items
        → ShowsTaken nested true (record line { is_commented = true; comments = doc; broken = p; blank = q }) left (taken ++ comment ∷ [])
    with_items left taken h items shown comments = record {
      items = h.items;
      comment_items = items;
      rs = h.rs ++ comment ∷ [];
      shown = h.shown;
      comments_shown = shown;
      comments = comments;
      read = λ a b. one a (h.read a b);
    }
      where
        one : (a : Stage) → LineRead nested true line (comment ∷ left) taken h.items h.rs a
            → LineRead nested true (record line { is_commented = true; comments = doc; broken = p; blank = q }) left
            (taken ++ comment ∷ [])
            h.items (h.rs ++ comment ∷ []) a
        one a r =
            let c = r.collected in
            record {
              collected = c;
              text = r.text;
              read = r.read;
              same = with_both (before_next a) taken (comment ∷ [])
                  ∙ ap (λ (y : Collected). with_lexeme y comment) r.same
                  ∙ sym (with_both c (waiting line.comma h.rs) (comment ∷ []))
                  ∙ ap (λ (rs : List (List ℕ)). with_lexemes c rs) (waiting_more line.comma h.rs comment);
              ends = inr (line_ends r);
              level = inr (line_level r);
            }

    -- none waited
    pub comment_first : line.is_commented ≡ false → line.last ≡ l → shows front [] → shows x (Shown (trimmed comment) ∷ [])
        → ShowsBoth front (gap_items gap) x (ref_tree doc)
        → more (least_needed l hash) (least_of gap) ≡ least_of gap → (nested ≡ false → stays gap ≡ true)
        → (left taken : List (List ℕ)) → ShowsTaken nested true line (comment ∷ left) taken
        → ShowsTaken nested true (record line { is_commented = true; comments = doc; broken = p; blank = q }) left (taken ++ comment ∷ [])
    comment_first alone is_last none x_shows both enough stays_there left taken h =
        let no_comments : h.rs ≡ [] = subst (λ (w : Bool). WaitingComments w nested line.last h.rs h.comment_items) alone h.comments in
        with_items left taken h (gap_items gap ++ Shown (trimmed comment) ∷ []) (both [] (Shown (trimmed comment) ∷ []) none x_shows)
        (subst (λ (rs : List (List ℕ)). AreComments (rs ++ comment ∷ []) × ReadsComments nested line.last (rs ++ comment ∷ [])
        (gap_items gap ++ Shown (trimmed comment) ∷ []))
        (sym no_comments) (
          (hash_role comment is, tt),
          subst (λ (m : Last). ReadsComments nested m (comment ∷ []) (gap_items gap ++ Shown (trimmed comment) ∷ [])) (sym is_last)
              (first_comment enough stays_there),
        ))

    -- others waited
    pub comment_next : line.is_commented ≡ true → line.last ≡ l → shows x (Shown (trimmed comment) ∷ [])
        → ShowsBoth (ref_tree line.comments) (gap_items gap) x (ref_tree doc)
        → least_of gap ≡ LineEnd → (nested ≡ false → stays gap ≡ true)
        → (left taken : List (List ℕ)) → ShowsTaken nested true line (comment ∷ left) taken
        → ShowsTaken nested true (record line { is_commented = true; comments = doc; broken = p; blank = q }) left (taken ++ comment ∷ [])
    comment_next others is_last x_shows both enough stays_there left taken h =
        let held : AreComments h.rs × ReadsComments nested line.last h.rs h.comment_items
        = subst (λ (w : Bool). WaitingComments w nested line.last h.rs h.comment_items) others h.comments in
        with_items left taken h (h.comment_items ++ (gap_items gap ++ Shown (trimmed comment) ∷ []))
        (both h.comment_items (Shown (trimmed comment) ∷ []) h.comments_shown x_shows) (
          comments_more h.rs comment held.0 (hash_role comment is),
          subst (λ (m : Last). ReadsComments nested m (h.rs ++ comment ∷ [])
              (h.comment_items ++ (gap_items gap ++ Shown (trimmed comment) ∷ []))) (sym is_last)
              (more_comments h.rs h.comment_items held.0 (subst (λ (m : Last). ReadsComments nested m h.rs h.comment_items) is_last held.1)
              enough stays_there),
        )

-- ---- a value

pub value_taken : {nested : Bool} {line : Line} {gap : Between} {x : Tree} {l : Last} {s : List ℕ}
    {left old taken vs : List (List ℕ)} (p q : Bool) (doc : RefDoc)
    → IsSettled line → ShowsBoth (ref_tree line.doc) (gap_items gap) x (ref_tree doc)
    → Suits nested line.last (head s) gap → IsWholeLexeme s
    → ShowsTaken nested true line (s ∷ old) taken → IsValue l s left vs x
    → ShowsTaken nested true (record line { doc = doc; last = l; broken = p; blank = q }) left (taken ++ (s ∷ vs))
value_taken {nested} {line} {gap} {x} {l} {s} {left} {old} {taken} {vs} p q doc settled both suits whole h v = record {
  items = items;
  comment_items = h.comment_items;
  rs = h.rs;
  shown = both h.items (Shown s ∷ v.items) h.shown v.shown;
  comments_shown = h.comments_shown;
  comments = subst (λ (w : Bool). WaitingComments w nested l h.rs h.comment_items) (sym settled.no_comments) no_comments;
  read = λ a b. one a (h.read a b);
}
  where
    items : List Item
    items = h.items ++ (gap_items gap ++ (Shown s ∷ v.items))

    no_comments : h.rs ≡ []
    no_comments =
        subst (λ (w : Bool). WaitingComments w nested line.last h.rs h.comment_items) settled.no_comments h.comments

    one : (a : Stage) → LineRead nested true line (s ∷ old) taken h.items h.rs a
        → LineRead nested true (record line { doc = doc; last = l; broken = p; blank = q }) left (taken ++ (s ∷ vs))
        (h.items ++ (gap_items gap ++ (Shown s ∷ v.items))) h.rs a
    one a r =
        let c = r.collected in
        let ends = line_ends r in
        let w = v.read c in
        let nothing : (k : Collected) → with_lexemes k (waiting line.comma h.rs) ≡ k
        = λ k. ap (λ (b : Bool). with_lexemes k (waiting b h.rs)) settled.no_comma
        ∙ ap (λ (rs : List (List ℕ)). with_lexemes k rs) no_comments in
        let next : MayFollow nested line.last c r.text false gap s = record {
          ends = ends.needs;
          inside = ends.inside;
          suits = suits;
          whole = whole;
          closing = λ e. absurd (clash e refl);
        } in
        record {
          collected = w.collected;
          text = w.text;
          read = read_both a (directly_after c r.text) (directly_after w.collected w.text) h.items
              (gap_items gap ++ (Shown s ∷ v.items)) r.read
              (text_read v.items (directly_after w.collected w.text) next w.read);
          same = with_both (before_next a) taken (s ∷ vs)
              ∙ ap (λ (y : Collected). with_lexemes y (s ∷ vs)) (r.same ∙ nothing c)
              ∙ sym w.same ∙ sym (nothing w.collected);
          ends = elim w.ends [
            | inl e ↦ inl (e, settled.no_comma, settled.no_comments)
            | inr e ↦ inr (record { needs = e.0.needs; plain = e.0.plain; inside = nested_along nested c w.collected e.1 ends.inside })
          ];
          level = elim w.ends [
            | inl e ↦ inl (e, settled.no_comma, settled.no_comments)
            | inr e ↦ inr (λ n. e.1 ∙ line_level r n)
          ];
        }

-- ---- before a closing bracket

-- the comma that waits may be another one, where none was shown
pub comma_changed : (nested : Bool) (line : Line) (w : Bool) (x : List ℕ) (left taken : List (List ℕ))
    → (may_hold line.last ≡ true → w ≡ line.comma)
    → ShowsTaken nested true line (x ∷ left) taken → ShowsTaken nested false (record line { comma = w }) (x ∷ left) taken
comma_changed nested line w x left taken keeps h = record {
  items = h.items;
  comment_items = h.comment_items;
  rs = h.rs;
  shown = h.shown;
  comments_shown = h.comments_shown;
  comments = h.comments;
  read = λ a b. one a (h.read a b);
}
  where
    same : (c : Collected) → HoldsNothingAfter line.last c → (b : Bool) → may_hold line.last ≡ b
        → Agrees false (with_lexemes c (waiting line.comma h.rs)) (with_lexemes c (waiting w h.rs))
    same c e true k = ap (λ (v : Bool). record (with_lexemes c (waiting v h.rs)) { comma = false }) (sym (keeps k))
    same c e false k =
        waiting_agrees line.comma w c h.rs (holds_nothing line.last c k e).0
        (waiting_comments line.is_commented nested line.last h.rs h.comment_items h.comments)

    one : (a : Stage) → LineRead nested true line (x ∷ left) taken h.items h.rs a → LineRead nested false (record line { comma = w })
        (x ∷ left) taken h.items h.rs a
    one a r =
        let ends = line_ends r in
        record {
          collected = r.collected;
          text = r.text;
          read = r.read;
          same = ap (λ (y : Collected). record y { comma = false }) r.same ∙ same r.collected ends.plain (may_hold line.last) refl;
          ends = inr ends;
          level = inr (line_level r);
        }

-- a line where nothing waits, with an optional text at its end or without
module _ (nested : Bool) (line : Line) (x : List ℕ) (left taken : List (List ℕ)) (closing : role x ≡ a_closing)
    (settled : IsSettled line) (h : ShowsTaken nested false line (x ∷ left) taken) where
  nothing_waits : (k : Collected) → with_lexemes k (waiting line.comma h.rs) ≡ k
  nothing_waits k =
      let no_comments : h.rs ≡ []
      = subst (λ (w : Bool). WaitingComments w nested line.last h.rs h.comment_items) settled.no_comments h.comments in
      ap (λ (b : Bool). with_lexemes k (waiting b h.rs)) settled.no_comma
      ∙ ap (λ (rs : List (List ℕ)). with_lexemes k rs) no_comments

  closes : (a : Stage) → (r : LineRead nested false line (x ∷ left) taken h.items h.rs a)
      → with_lexemes (before_next a) (taken ++ x ∷ []) ≡ with_lexeme r.collected x
  closes a r =
      with_both (before_next a) taken (x ∷ [])
      ∙ closing_same (with_lexemes (before_next a) taken) (with_lexemes r.collected (waiting line.comma h.rs)) x closing r.same
      ∙ ap (λ (y : Collected). with_lexeme y x) (nothing_waits r.collected)

  pub closed_plain : IsClosed nested line x taken
  closed_plain = record { items = h.items; shown = h.shown; read = λ a b. one a (h.read a b) }
    where
      one : (a : Stage) → LineRead nested false line (x ∷ left) taken h.items h.rs a → ClosedRead nested line x taken h.items a
      one a r =
          let ends = line_ends r in
          record {
            collected = r.collected;
            text = r.text;
            marked = false;
            read = r.read;
            same = closes a r;
            needs = ends.needs;
            inside =
                ends.inside;
            level = line_level r;
          }

  pub closed_marked : (doc : RefDoc) → nested ≡ true → may_hold line.last ≡ false
      → ShowsMore (ref_tree line.doc) (Mark (comma ∷ []) ∷ []) (ref_tree doc)
      → IsClosed nested (record line { doc = doc }) x taken
  closed_marked doc inner plain more_shown = record {
    items = h.items ++ Mark (comma ∷ []) ∷ [];
    shown = more_shown h.items h.shown;
    read =
        λ a b. one a (h.read a b);
  }
    where
      nothing_needed : (l : Last) → may_hold l ≡ false → least_needed l comma ≡ shown.Nothing
      nothing_needed last.Start e = refl
      nothing_needed last.Close e = refl
      nothing_needed last.Equals e = refl
      nothing_needed last.Word e = refl
      nothing_needed last.Dot e = refl
      nothing_needed last.String e = refl
      nothing_needed last.Comma e = absurd (cc)
      nothing_needed last.Comment e = absurd (cc)

      one : (a : Stage) → LineRead nested false line (x ∷ left) taken h.items h.rs a
          → ClosedRead nested (record line { doc = doc }) x taken
          (h.items ++ Mark (comma ∷ []) ∷ []) a
      one a r =
          let c = r.collected in
          let ends = line_ends r in
          let nothing = holds_nothing line.last c plain ends.plain in
          let before_comma : least_between r.text (comma ∷ []) ≡ shown.Nothing = ends.needs (comma ∷ [])
          ∙ nothing_needed line.last plain in
          record {
            collected = c;
            text = r.text;
            marked = true;
            read = read_both a (directly_after c r.text) (record { collected = c; last = r.text; place = shown.after_text; marked = true })
                h.items (Mark (comma ∷ []) ∷ []) r.read (
                  record {
                    comma = refl;
                    apart = rw before_comma refl;
                    inside = subst (λ (n : Bool). IsNested n c) inner ends.inside;
                    no_comma = nothing.0;
                    no_mark = refl;
                  },
                  refl,
                );
            same = closes a r;
            needs = ends.needs;
            inside = ends.inside;
            level = line_level r;
          }

-- ---- where a line goes on

pub goes_on_last : (nested : Bool) (line : Line) → TakesMore nested line → nested ≡ false → is_last_comment line.last ≡ false
goes_on_last true line h e = absurd (clash refl e)
goes_on_last false line h e = h.1

pub goes_on_alone : (nested : Bool) (line : Line) → TakesMore nested line → nested ≡ false → line.is_commented ≡ false
goes_on_alone true line h e = absurd (clash refl e)
goes_on_alone false line h e = h.0

pub never : {P : Type 0} → true ≡ false → P
never e = absurd (clash refl e)

pub commented_nested : (nested : Bool) (line : Line) {P : Type 0} → TakesMore nested line → line.is_commented ≡ true
    → nested ≡ false → P
commented_nested nested line h r e = absurd (clash r (goes_on_alone nested line h e))

-- a comment's text shows itself
pub comment_items : (s : List ℕ) → head s ≡ hash → text_items s ≡ Shown s ∷ []
comment_items s h = let b = begins_comment s h in rw b.1 refl

pub trimmed_shows : (x : Tree) (s t : List ℕ) → head s ≡ hash → t ≡ trimmed s → shows x (text_items t)
    → shows x (Shown (trimmed s) ∷ [])
trimmed_shows x s t h e k =
    subst (shows x) (ap text_items e ∙ comment_items (trimmed s) (trimmed_head s h)) k
