-- The comments of TOML 1.0.
use Rattle.std.specs.Prelude.{ℕ, Bool, ◌&&◌, ◌==◌, List}
use Rattle.std.specs.List.{list_all}
use Rattle.toml_lexemes.specs.Bytes.{hash}
use Rattle.toml_grammar.specs.Bytes.{first_byte, is_non_eol}

-- comment = comment-start-symbol *non-eol
unfoldable pub is_comment : List ℕ → Bool
is_comment s = (first_byte s == hash) && list_all is_non_eol s
