-- Errors of the words, and what holds of them.
use Rattle.std.proofs.Common.{List, Result, Ok, Err}
use Rattle.std.specs.Prelude.{IfErr, MatchResult, IsErrAnd}
use Rattle.clap.specs.Words.{Row}
use Rattle.clap.specs.declared.error.Error.{Error}
use Rattle.formatter_files.specs.Faults.{IsRequestError, IsOfWords}
use Rattle.formatter_files.specs.declared.request_error.RequestError.{RequestError}
use Rattle.formatter_files.specs.declared.request_error.RequestError.TheVariants.{Words, Conflict}

module _ (Holds More : Error → Type 0) (weaker : (e : Error) → Holds e → More e) (rows : List Row) where
  -- an error of `clap` is a fault
  pub fault_of_words : (e : RequestError) → IsOfWords Holds e → IsRequestError More rows e
  fault_of_words (Words e) h = weaker e h
  fault_of_words (Conflict c) h = absurd h

  pub IsRequestError-weaker : (e : RequestError) → IsRequestError Holds rows e → IsRequestError More rows e
  IsRequestError-weaker (Words e) h = weaker e h
  IsRequestError-weaker (Conflict c) h = h

-- what holds of the error that a `?` makes
module _ {T E : Type 0} {Made : E → Type 0} where
  pub IfErr-made : (r : Result T E) (Holds : E → Type 0) → IsErrAnd r Made → ((e : E) → Made e → Holds e) → IfErr r Holds
  IfErr-made (Ok x) Holds is holds = absurd is
  IfErr-made (Err e) Holds is holds = holds e is

  pub MatchResult-made : (r : Result T E) (P : T → Type 0) (Holds : E → Type 0) → IsErrAnd r Made → ((e : E) → Made e → Holds e)
      → MatchResult r P Holds
  MatchResult-made (Ok x) P Holds is holds = absurd is
  MatchResult-made (Err e) P Holds is holds = holds e is
