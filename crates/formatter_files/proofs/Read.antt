-- What is read of an option that takes a number.
use Rattle.std.proofs.Common.{◌≡◌, ◌<◌, ◌^◌, refl, arith, Option, Some, None, Result, Ok, Err, ℕ, unwrap_or}
use Rattle.std.specs.Str.Parse.{ParsesUnsigned}
use Rattle.clap.specs.Matches.{ReadsOne}
use Rattle.clap.specs.Words.{Text}
use Rattle.formatter_files.specs.Words.{HasNumber, IsNumberUpTo}

module _ (E : Type 0) (gives : Text → Result ℕ E → Type 0) (bits most default : ℕ)
    (parses : (text : Text) (r : Result ℕ E) → gives text r → ParsesUnsigned bits 10 text r) where
  pub read : (given : Option Text) (got : Option ℕ) → most < 2 ^ bits → IsNumberUpTo most given → (given ≡ None → got ≡ None)
      → ((text : Text) → given ≡ Some text → ReadsOne gives text got) → HasNumber default given (unwrap_or got default)
  read None got fits number none some = rw (none refl) refl
  read (Some text) None fits number none some =
      let failed = some text refl in
      absurd (parses text (Err failed.0) failed.1 (number.0, omega (arith, number.1)))
  read (Some text) (Some n) fits number none some = (number.0, (parses text (Ok n) (some text refl)).1)
