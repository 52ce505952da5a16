-- What a clause sees of a piece.
use Rattle.std.specs.Prelude.{◌≡◌, ◌≢◌, ℕ, false, List, [], ◌∷◌, ⊤}
use Rattle.json.specs.Ascii as ascii
use Rattle.json.specs.Word.{head, ends_word}
use Rattle.json_formatter.specs.Values.{bracket}
use Rattle.json_formatter.specs.declared.piece.JsonPiece.{JsonPiece}
use Rattle.json_formatter.specs.declared.piece.JsonPiece.TheVariants.{OpenObject, CloseObject, OpenArray, CloseArray, Comma, Colon, String}
use Rattle.json_formatter.specs.declared.piece.JsonPiece.TheVariants.{Word}

-- how a piece is spelled, with its line end
abbrev pub piece_text : JsonPiece → List ℕ
piece_text (OpenObject breaks) = bracket ascii.open_brace breaks
piece_text CloseObject = ascii.close_brace ∷ []
piece_text (OpenArray breaks) = bracket ascii.open_bracket breaks
piece_text CloseArray = ascii.close_bracket ∷ []
piece_text Comma = ascii.comma ∷ []
piece_text Colon = ascii.colon ∷ []
piece_text (String s) = s.now
piece_text (Word s) = s.now

-- a string begins with a quote; a word begins neither with a quote nor with what ends a word
abbrev pub IsPiece : JsonPiece → Type 0
IsPiece (OpenObject breaks) = ⊤
IsPiece CloseObject = ⊤
IsPiece (OpenArray breaks) = ⊤
IsPiece CloseArray = ⊤
IsPiece Comma = ⊤
IsPiece Colon = ⊤
IsPiece (String s) = head s.now ≡ ascii.quote
IsPiece (Word s) = (head s.now ≢ ascii.quote) × (ends_word s.now ≡ false)
