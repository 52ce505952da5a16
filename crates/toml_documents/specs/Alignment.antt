-- A layout with comments at the ends of lines that follow each other one below the other: one blank after the longest of the lines.
use Rattle.std.specs.Prelude.{ℕ, ◌-◌, Bool, true, false, not, cond, ◌&&◌, max, List, [], ◌∷◌, length, Option, Some, None, if◌then◌else◌}
use Rattle.std.specs.List.{list_any}
use Rattle.prettyless_model.specs.Column.{saturating_add}
use Rattle.prettyless_model.specs.Metrics.{text_width}
use Rattle.prettyless_model.specs.Spaces.{spaces}
use Rattle.toml_lexemes.specs.Bytes.{blank_space}
use Rattle.toml_lexemes.specs.SpacedLexemes.{SpacedToml, after_toml_gap, toml_put_together, toml_spaced_lexemes}
use Rattle.toml_grammar.specs.Sorts as sort
use Rattle.toml_grammar.specs.Sorts.{Sort, sort_of}
use Rattle.toml_documents.specs.Documents.{is_line_feed_byte}
use Rattle.toml_documents.specs.declared.standing.Reach.{Reach}
use Rattle.toml_documents.specs.declared.standing.Standing.{Standing}
use Rattle.toml_documents.specs.declared.style.Style.{Style}

abbrev pub is_comment_sort : Sort → Bool
is_comment_sort sort.comment = true
is_comment_sort s = false

abbrev pub is_comment_lexeme : SpacedToml → Bool
is_comment_lexeme p = is_comment_sort (sort_of p.lexeme)

abbrev pub is_line_end_sort : Sort → Bool
is_line_end_sort sort.line_end = true
is_line_end_sort s = false

abbrev pub ends_the_line : SpacedToml → Bool
ends_the_line p = is_line_end_sort (sort_of p.lexeme)

-- ---- how far a line has come

-- nothing stands on it
abbrev pub reach_start : Reach
reach_start = record { columns = 0; holds = false; ended = false }

-- after a lexeme that ends no line; after one with line ends in it a comment is not aligned
abbrev pub reach_past : Reach → SpacedToml → Reach
reach_past r p =
    record {
      columns = saturating_add (saturating_add r.columns (length p.gap)) (text_width p.lexeme);
      holds = not (list_any is_line_feed_byte p.lexeme);
      ended = r.ended;
    }

-- after a comment that ends it
abbrev pub reach_with_comment : Reach → Reach
reach_with_comment r = record r { ended = true }

-- The most columns before the comments of lines that follow each other, of which w are the most so far: up to a line with no comment at
-- its end.
abbrev pub most_columns : ℕ → Reach → List SpacedToml → ℕ
most_columns w r [] = w
most_columns w r (p ∷ ps) =
    cond (is_comment_lexeme p) (cond r.holds (most_columns (max w r.columns) (reach_with_comment r) ps) w)
    (cond (ends_the_line p) (cond r.ended (most_columns w reach_start ps) w)
    (most_columns w (reach_past r p) ps))

-- ---- where a layout stands

abbrev pub first_standing : Standing
first_standing = record { reach = reach_start; most = None }

-- the most columns of those lines, which are known where the line before is one of them
abbrev pub known_or : Option ℕ → ℕ → ℕ
known_or (Some w) v = w
known_or None v = v

abbrev pub most_here : Standing → List SpacedToml → ℕ
most_here st ps = known_or st.most (most_columns st.reach.columns (reach_with_comment st.reach) ps)

-- the lexeme is a comment at the end of a line
abbrev pub is_at_end : Standing → SpacedToml → Bool
is_at_end st p = is_comment_lexeme p && st.reach.holds

-- by how many columns the lexeme is moved, in front of others
abbrev pub moved_by : Standing → SpacedToml → List SpacedToml → Option ℕ
moved_by st p ps = if is_at_end st p then Some (most_here st ps - st.reach.columns) else None

-- after the lexeme
abbrev pub standing_past : Standing → SpacedToml → List SpacedToml → Standing
standing_past st p ps =
    if is_at_end st p
    then record { reach = reach_with_comment st.reach; most = Some (most_here st ps) }
    else (if ends_the_line p then record { reach = reach_start; most = if st.reach.ended then st.most else None }
    else record st { reach = reach_past st.reach p })

-- the gap before it
abbrev pub moved_gap : Option ℕ → List ℕ → List ℕ
moved_gap None g = g
moved_gap (Some n) g = blank_space ∷ spaces n

-- ---- layouts

abbrev pub aligned_from : Standing → List SpacedToml → List SpacedToml
aligned_from st [] = []
aligned_from st (p ∷ ps) = after_toml_gap (moved_gap (moved_by st p ps) p.gap) p.lexeme ∷ aligned_from (standing_past st p ps) ps

abbrev pub with_aligned_comments : List ℕ → List ℕ
with_aligned_comments bytes = toml_put_together (aligned_from first_standing (toml_spaced_lexemes bytes))

-- where that is asked for
abbrev pub comments_as : Bool → List ℕ → List ℕ
comments_as align bytes = if align then with_aligned_comments bytes else bytes

-- where the style aligns them
abbrev pub with_comments_as : Style → List ℕ → List ℕ
with_comments_as style bytes = comments_as style.align bytes
