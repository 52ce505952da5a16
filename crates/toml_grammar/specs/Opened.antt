-- The brackets of a text that are open.
use Rattle.std.specs.Prelude.{ℕ, ◌+◌, ◌-◌, List, [], ◌∷◌, ◌++◌, length, take, Option, slice_get}
use Rattle.toml_lexemes.specs.SpacedLexemes.{SpacedToml}
use Rattle.toml_grammar.specs.Sorts.{Sort, open_array, close_array, open_table, close_table, sort_of}
use Rattle.toml_grammar.specs.declared.next.Bracket.TheVariants as bracket
use Rattle.toml_grammar.specs.declared.opened.Opened.{Opened}

-- The brackets that are open after a lexeme of this sort, before which are so many bytes. Those of headers are among them, and the
-- innermost is the last one.
abbrev pub opened_by : Sort → ℕ → List Opened → List Opened
opened_by open_array at os = os ++ record { offset = at; bracket = bracket.Array } ∷ []
opened_by close_array at os = take (length os - 1) os
opened_by open_table at os = os ++ record { offset = at; bracket = bracket.Table } ∷ []
opened_by close_table at os = take (length os - 1) os
opened_by s at os = os

-- those that are open after these lexemes, before which are so many bytes
abbrev pub opened_after : ℕ → List Opened → List SpacedToml → List Opened
opened_after at os [] = os
opened_after at os (p ∷ ps) =
    opened_after (at + (length p.gap + length p.lexeme)) (opened_by (sort_of p.lexeme) (at + length p.gap) os) ps

-- those that are open after the lexemes with which a text begins
abbrev pub opened_in : List SpacedToml → List Opened
opened_in ps = opened_after 0 [] ps

-- the innermost
abbrev pub innermost_opened : List Opened → Option Opened
innermost_opened os = slice_get os (length os - 1)
