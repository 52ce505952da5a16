use Rattle.std.proofs.Common.{◌≡◌, refl, sym, ap, ◌∙◌, ℕ, List, [], ◌∷◌, true, false}
use Rattle.std.specs.Prelude.{Bool, Option, Some, None, is_some, not}
use Rattle.toml_lexemes.specs.SpacedLexer.{text_if, IsNamedIf}
use Rattle.toml_lexemes.specs.View.{toml_text_of}
use Rattle.toml_lexemes.specs.declared.lexeme.Lexeme.{Lexeme}
use Rattle.toml_lexemes.specs.declared.lexeme.Lexeme.TheVariants as lexeme
use Rattle.toml_grammar.specs.Sorts as sort
use Rattle.toml_grammar.specs.Sorts.{Sort, sort_of}
use Rattle.toml_documents.specs.Kinds.{sort_for}
use Rattle.toml_documents.specs.Walks.{is_text_end}
use Rattle.toml_documents.proofs.LexemeKinds.{sort_known}
use Rattle.toml_documents.proofs.walk.is_end.Goals as goal

-- the sort of no lexeme
abbrev is_no_sort : Sort → Bool
is_no_sort sort.text_end = true
is_no_sort k = false

some_sort : (x : Lexeme) → is_no_sort (sort_for x) ≡ false
some_sort lexeme.OpenArray = refl
some_sort x = refl

some_text : (s : List ℕ) (k : Sort) → sort_of s ≡ k → is_no_sort k ≡ false → is_text_end s ≡ false
some_text [] k e some = ap is_no_sort e ∙ some
some_text (x ∷ xs) k e some = refl

from_not : (a b : Bool) → a ≡ not b → b ≡ not a
from_not true true e = absurd (cc)
from_not true false e = refl
from_not false true e = refl
from_not false false e = absurd (cc)

-- no lexeme is empty
none_is : (o : Option Lexeme) → IsNamedIf o → not (is_some o) ≡ is_text_end (text_if o)
none_is None named = refl
none_is (Some x) named = sym (some_text (toml_text_of x) (sort_for x) (sort_known x named) (some_sort x))

pub returns : goal.returns
returns c = from_not (is_some c.args.found.lexeme) c.is_none.result c.is_none.ensures ∙ none_is c.args.found.lexeme c.requires
