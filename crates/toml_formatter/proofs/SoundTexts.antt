-- The lexemes of a TOML text may be shown.
use Rattle.std.proofs.Common.{◌≡◌, refl, ℕ, true, List, []}
use Rattle.std.specs.Prelude.{All}
use Rattle.toml_lexemes.specs.Lexemes.{toml_lexemes_of}
use Rattle.toml_lexemes.specs.Sound.{IsClosedString, AreSound}
use Rattle.toml_lexemes.proofs.SoundTexts.{lexemes_sound}
use Rattle.toml_grammar.specs.Grammar.{is_toml}
use Rattle.toml_grammar.specs.Laws.{IsClosedIfString, StringsOfTomlAreClosed}

closed : (ss : List (List ℕ)) → All IsClosedIfString ss → All IsClosedString ss
closed ss h = λ k d lt e. h k d lt e 32 [] refl

pub sound_text : (text : List ℕ) → StringsOfTomlAreClosed → is_toml text ≡ true → AreSound (toml_lexemes_of text)
sound_text text strings e = lexemes_sound text (closed (toml_lexemes_of text) (strings text e))
