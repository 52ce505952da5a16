-- What a call for the layout of a TOML text answers, for each status.
use Rattle.std.specs.Prelude.{◌≡◌, ◌≤◌, ◌<◌, ◌⊎◌, ℕ, List, length, take, codes, true, false}
use Rattle.std.specs.Str.{IsUtf8}
use Rattle.text_lexemes.specs.Places.{IsPlaceWithin}
use Rattle.prettyless_exports.specs.Overlay.{overlay, Holds, IsUntouched}
use Rattle.toml_formatter.specs.Formats.{IsFormattedToml}
use Rattle.toml_grammar.specs.Grammar.{is_toml}
use Rattle.toml_grammar.specs.Refusals.{NamesBracket, NamesFault, nesting}
use Rattle.toml_grammar.specs.declared.refusal.Refusal.{Refusal}

-- So far into the text it is TOML, or not too deep: there something else was expected, whose name is in the area.
pub record IsTomlFault (text old new : List ℕ) (written line column : ℕ) : Type 0 where
  -- why it is refused, and at this place
  pub refusal : Refusal
  pub at : refusal.place ≡ record { line = line; column = column }
  -- the place of a byte of the text, or of its end
  pub place : IsPlaceWithin text refusal.place
  pub name : Holds refusal.expected.now old new written
  -- where the text is not UTF-8, that was expected
  pub encoding : ¬ IsUtf8 text → refusal.expected.now ≡ codes "UTF-8"
  -- where it is, and not TOML, this is the fault of its grammar
  pub fault : IsUtf8 text → is_toml text ≡ false → NamesFault text refusal
  -- where it is TOML, less depth was expected, and this is its first bracket that is too deep
  pub depth : IsUtf8 text → is_toml text ≡ true → refusal.expected.now ≡ nesting
  pub bracket : IsUtf8 text → is_toml text ≡ true → NamesBracket text refusal

-- The answer to a text, for an area that held `old` and holds `new`.
pub record AnswersToml (limit : ℕ) (text old new : List ℕ) (written line column status : ℕ) : Type 0 where
  -- the layout is in the area: it has `written` bytes
  pub laid_out : status ≡ 0 → (bytes : List ℕ) × IsFormattedToml text bytes × (length bytes ≤ limit)
      × (length bytes ≤ length old) × Holds bytes old new written
  -- the layout has `written` bytes, more than the area, which holds its beginning
  pub too_small : status ≡ 1 → (bytes : List ℕ) × IsFormattedToml text bytes × (length bytes ≤ limit)
      × (length old < length bytes) × (new ≡ overlay bytes old) × (written ≡ length bytes)
  -- memory was refused, and the area is as it was
  pub memory : status ≡ 2 → IsUntouched old new written
  -- the layout is longer than the limit, and what is within the limit is in the area
  pub past_limit : status ≡ 4 → (bytes : List ℕ) × IsFormattedToml text bytes × (limit < length bytes)
      × Holds (take limit bytes) old new written
  -- the bytes are not a TOML text, or brackets are too deep in one another, and where that is seen
  pub not_toml : status ≡ 6 → IsTomlFault text old new written line column
  -- at the other statuses there is no place
  pub no_place : ¬ (status ≡ 6) → (line ≡ 0) × (column ≡ 0)
  -- there is no other status; 3 comes of programs alone
  pub known : (status ≤ 2) ⊎ (status ≡ 4) ⊎ (status ≡ 6)
