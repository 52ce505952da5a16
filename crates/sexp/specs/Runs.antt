-- What a run reads and writes.
use Rattle.std.specs.Prelude.{◌≡◌, ◌⊎◌, ℕ, List, [], ◌∷◌, ◌++◌, Option, IfSome, Result, Ok, Err}
use Rattle.std.specs.Io.KnownBytes.{Keeps, Appends}
use Rattle.prettyless.specs.Layout.{Bytes, Whole, layout, bytes_in}
use Rattle.prettyless_model.specs.declared.options.RenderOptions.{RenderOptions}
use Rattle.sexp.specs.Value.{SexpValue}
use Rattle.sexp.specs.Grammar.{input_line_feed, ReadsValue}
use Rattle.sexp.specs.Documents.{sexp_document}
use Rattle.prettyless_sink.specs.Sink.{AppendsProperBeginning}
use Rattle.sexp.specs.declared.error.RunError.{RunError}
use Rattle.sexp.specs.declared.error.RunError.TheVariants.{NotAnSexp, Memory, Read, Write}

-- the layout of a value by these options
abbrev pub layout_of_value : RenderOptions → SexpValue → Bytes
layout_of_value o v = layout o (sexp_document v)

-- the whole layout of the value, and a line feed
abbrev pub WritesWhole : RenderOptions → SexpValue → Option (List ℕ) → Option (List ℕ) → Type 0
WritesWhole o v old new = (bytes : List ℕ) × (layout_of_value o v ≡ Whole bytes) × Appends old new (bytes ++ input_line_feed ∷ [])

-- a beginning of them, and not all
abbrev pub WritesBeginning : RenderOptions → SexpValue → Option (List ℕ) → Option (List ℕ) → Type 0
WritesBeginning o v old new = AppendsProperBeginning old new (bytes_in (layout_of_value o v) ++ input_line_feed ∷ [])

-- the layout of the value and a line feed were written, or a beginning
abbrev pub WritesValue : {A : Type 0} → RenderOptions → SexpValue → Option (List ℕ) → Option (List ℕ) → Result A RunError → Type 0
WritesValue o v old new (Ok done) = WritesWhole o v old new
WritesValue o v old new (Err NotAnSexp) = ⊥
WritesValue o v old new (Err (Read e)) = ⊥
WritesValue o v old new (Err (Memory e)) = WritesBeginning o v old new
WritesValue o v old new (Err (Write e)) = WritesBeginning o v old new

-- The reader gave an input, all that it had where its bytes are known, and that is read as the value.
abbrev pub GivesValue : Option (List ℕ) → SexpValue → Type 0
GivesValue given v = (input : List ℕ) × IfSome given (λ bytes. bytes ≡ input) × ReadsValue input v

-- of a value that was given
abbrev pub OfGiven : Option (List ℕ) → (SexpValue → Type 0) → Type 0
OfGiven given P = (v : SexpValue) × GivesValue given v × P v

-- A run that was given bytes, where they are known, and took what the writer holds from old to new. Where the input is
-- refused no value is read from it. Where memory was refused nothing was written, or a beginning.
abbrev pub RunsFormatter : {A : Type 0} → RenderOptions → Option (List ℕ) → Option (List ℕ) → Option (List ℕ) → Result A RunError → Type 0
RunsFormatter o given old new (Ok done) = OfGiven given (λ v. WritesWhole o v old new)
RunsFormatter o given old new (Err NotAnSexp) = Keeps old new × IfSome given (λ bytes. (v : SexpValue) → ReadsValue bytes v → ⊥)
RunsFormatter o given old new (Err (Read e)) = Keeps old new
RunsFormatter o given old new (Err (Memory e)) = Keeps old new ⊎ OfGiven given (λ v. WritesBeginning o v old new)
RunsFormatter o given old new (Err (Write e)) = OfGiven given (λ v. WritesBeginning o v old new)
