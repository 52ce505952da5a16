use Rattle.toml_lexemes.proofs.ReadItems.{shown_as_read}
use Rattle.toml_lexemes.proofs.SoundTexts.{lexemes_sound}
use Rattle.toml_lexemes.proofs.laws.law_shown.Goals as goal

pub returns-clause-read : goal.returns-clause-read
returns-clause-read c = shown_as_read

pub returns-clause-sound : goal.returns-clause-sound
returns-clause-sound c = lexemes_sound
