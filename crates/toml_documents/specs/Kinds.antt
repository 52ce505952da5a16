-- What lexemes are to a layout.
use Rattle.std.specs.Prelude.{ℕ, List, Bool, true, false, cond, ⊤}
use Rattle.toml_lexemes.specs.Bytes.{ends_with_dot}
use Rattle.toml_lexemes.specs.declared.lexeme.Lexeme.{Lexeme}
use Rattle.toml_lexemes.specs.declared.lexeme.Lexeme.TheVariants as lexeme
use Rattle.toml_grammar.specs.Sorts as sort
use Rattle.toml_grammar.specs.Sorts.{Sort, sort_of}
use Rattle.toml_documents.specs.declared.kind.Kind.{Kind}
use Rattle.toml_documents.specs.declared.kind.Kind.TheVariants.{Statement, Header, Table, Array, Numbers}
use Rattle.toml_documents.specs.declared.kind.Last.{Last}
use Rattle.toml_documents.specs.declared.kind.Last.TheVariants as last

abbrev pub is_opening : Lexeme → Bool
is_opening lexeme.OpenArray = true
is_opening lexeme.CloseArray = false
is_opening lexeme.OpenTable = true
is_opening lexeme.CloseTable = false
is_opening lexeme.Comma = false
is_opening lexeme.Equals = false
is_opening lexeme.LineEnd = false
is_opening (lexeme.Comment s) = false
is_opening (lexeme.String s) = false
is_opening (lexeme.Word s) = false

abbrev pub is_closing : Lexeme → Bool
is_closing lexeme.OpenArray = false
is_closing lexeme.CloseArray = true
is_closing lexeme.OpenTable = false
is_closing lexeme.CloseTable = true
is_closing lexeme.Comma = false
is_closing lexeme.Equals = false
is_closing lexeme.LineEnd = false
is_closing (lexeme.Comment s) = false
is_closing (lexeme.String s) = false
is_closing (lexeme.Word s) = false

-- it begins a value, or goes on with a statement as one
abbrev pub IsPart : Lexeme → Type 0
IsPart lexeme.OpenArray = ⊤
IsPart lexeme.CloseArray = ⊥
IsPart lexeme.OpenTable = ⊤
IsPart lexeme.CloseTable = ⊥
IsPart lexeme.Comma = ⊥
IsPart lexeme.Equals = ⊤
IsPart lexeme.LineEnd = ⊥
IsPart (lexeme.Comment s) = ⊥
IsPart (lexeme.String s) = ⊤
IsPart (lexeme.Word s) = ⊤

-- what a document ends with after a word, which ends with a dot or not
abbrev pub last_after_word : Bool → Last
last_after_word dotted = cond dotted last.Dot last.Word

-- what it ends with after a value that begins with this lexeme
abbrev pub last_after : Lexeme → Last
last_after lexeme.OpenArray = last.Close
last_after lexeme.CloseArray = last.Close
last_after lexeme.OpenTable = last.Close
last_after lexeme.CloseTable = last.Close
last_after lexeme.Comma = last.Close
last_after lexeme.Equals = last.Equals
last_after lexeme.LineEnd = last.Close
last_after (lexeme.Comment s) = last.Close
last_after (lexeme.String s) = last.String
last_after (lexeme.Word s) = last_after_word (ends_with_dot s.now)

-- its sort
abbrev pub sort_for : Lexeme → Sort
sort_for lexeme.OpenArray = sort.open_array
sort_for lexeme.CloseArray = sort.close_array
sort_for lexeme.OpenTable = sort.open_table
sort_for lexeme.CloseTable = sort.close_table
sort_for lexeme.Comma = sort.comma
sort_for lexeme.Equals = sort.equals
sort_for lexeme.LineEnd = sort.line_end
sort_for (lexeme.Comment s) = sort.comment
sort_for (lexeme.String s) = sort.string
sort_for (lexeme.Word s) = sort.word

-- what a document ends with after a value that begins with a lexeme of this sort, which ends with a dot or not
abbrev pub last_after_sort : Sort → Bool → Last
last_after_sort sort.comma dotted = last.Comma
last_after_sort sort.comment dotted = last.Comment
last_after_sort sort.equals dotted = last.Equals
last_after_sort sort.string dotted = last.String
last_after_sort sort.word dotted = last_after_word dotted
last_after_sort s dotted = last.Close

-- the same by how the lexeme is spelled
abbrev pub last_after_text : List ℕ → Last
last_after_text s = last_after_sort (sort_of s) (ends_with_dot s)

-- what `[` opens where it stands in this
abbrev pub array_in : Kind → Bool → Kind
array_in Statement true = Header
array_in Statement false = Array
array_in Header first = Header
array_in Table first = Array
array_in Array first = Array
array_in Numbers first = Array

-- what a bracket of this sort opens where it stands in this, first or not
abbrev pub kind_in : Kind → Bool → Sort → Kind
kind_in around first sort.open_array = array_in around first
kind_in around first s = Table
