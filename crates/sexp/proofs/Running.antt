-- What was read and written in a run, put together.
use Rattle.std.proofs.Common.{◌≡◌, ℕ, ◌<◌, List, [], ◌∷◌, ◌++◌, length, length-append, append_assoc, Option, Some, None, Result, Ok, Err}
use Rattle.std.proofs.Common.{refl, sym, ap, subst, ◌∙◌, ◌⊎◌, inl, inr, arith}
use Rattle.std.specs.Prelude.{OnOk, OnErr, IfErr, IfSome, IsErrAnd}
use Rattle.std.specs.Io.KnownBytes.{Appends, Consumes, IsAtEnd, Keeps}
use Rattle.std.proofs.KnownBytes.{Appends-nil, Appends-trans}
use Rattle.std.proofs.lemmas.List.{append-nil}
use Rattle.prettyless.specs.Layout.{Whole, bytes_in}
use Rattle.prettyless.specs.Renders.{RendersKnown}
use Rattle.prettyless_model.specs.declared.options.RenderOptions.{RenderOptions}
use Rattle.prettyless_sink.specs.declared.error.RenderError.{RenderError}
use Rattle.prettyless_sink.specs.declared.error.RenderError.TheVariants as stops
use Rattle.sexp.specs.Value.{SexpValue}
use Rattle.sexp.specs.Fronts.{RefusesInput}
use Rattle.sexp.specs.Grammar.{input_line_feed, ReadsValue}
use Rattle.sexp.specs.Transfer.{IsWantOfMemory, IsReading, IsWriterFailure}
use Rattle.prettyless_sink.specs.Sink.{AppendsProperBeginning}
use Rattle.sexp.specs.Runs.{layout_of_value, WritesBeginning, WritesValue, GivesValue, RunsFormatter}
use Rattle.sexp.specs.declared.error.RunError.{RunError}
use Rattle.sexp.specs.declared.error.RunError.TheVariants.{NotAnSexp, Memory, Read, Write}
use Rattle.sexp.proofs.Total.{layout_not_cut, layout_whole}

-- what was read is all that was given, where it is short enough to be read as a value
pub gives_value : (given left : Option (List ℕ)) (input : List ℕ) (v : SexpValue) → Consumes given left input → IsAtEnd left
    ⊎ (1048576 < length input) → ReadsValue input v → GivesValue given v
gives_value None left input v taken all r = (input, tt, r)
gives_value (Some bytes) None input v taken all r = absurd taken
gives_value (Some bytes) (Some rest) input v taken (inl end) r = (input, taken ∙ ap (λ (x : List ℕ). input ++ x) end ∙ append-nil input, r)
gives_value (Some bytes) (Some rest) input v taken (inr long) r = absurd (omega (arith, r.size))

-- ---- the layout

-- a beginning of the layout, without its line feed
begins : (o : RenderOptions) (v : SexpValue) (old new : Option (List ℕ)) (front back : List ℕ)
    → bytes_in (layout_of_value o v) ≡ front ++ back
    → Appends old new front → WritesBeginning o v old new
begins o v old new front back e appended = (
  front,
  back ++ input_line_feed ∷ [],
  ap (λ (x : List ℕ). x ++ input_line_feed ∷ []) e ∙ append_assoc front back (input_line_feed ∷ []),
  omega (arith, length-append back (input_line_feed ∷ [])),
  appended,
)

-- nothing of it was written
pub not_begun : {A : Type 0} (o : RenderOptions) (v : SexpValue) (old : Option (List ℕ)) (r : Result A RunError) (e : RunError)
    → IsErrAnd r (λ f. f ≡ e) → IsWantOfMemory e → WritesValue o v old old r
not_begun o v old (Ok done) e failed refused = absurd failed
not_begun o v old (Err (Memory f)) e failed refused = begins o v old old [] (bytes_in (layout_of_value o v)) refl (Appends-nil old)
not_begun o v old (Err NotAnSexp) e failed refused = subst IsWantOfMemory (sym failed) refused
not_begun o v old (Err (Read f)) e failed refused = absurd (subst IsWantOfMemory (sym failed) refused)
not_begun o v old (Err (Write f)) e failed refused = absurd (subst IsWantOfMemory (sym failed) refused)

-- a render stopped, which the document did not fail
pub begun : (A : Type 0) {E : Type 0} (fails : E → Type 0) (o : RenderOptions) (v : SexpValue) (old new : Option (List ℕ))
    (e : RenderError E)
    → RendersKnown {A = A} fails (layout_of_value o v) old new (Err e) → WritesBeginning o v old new
begun A fails o v None new e rendered = begins o v None new [] (bytes_in (layout_of_value o v)) refl tt
begun A fails o v (Some x) None e rendered = absurd rendered
begun A fails o v (Some x) (Some y) (stops.Document d) rendered = absurd (layout_not_cut o v rendered.0 rendered.1)
begun A fails o v (Some x) (Some y) (stops.Sink d) rendered = begins o v (Some x) (Some y) rendered.0 rendered.1 rendered.2 rendered.3
begun A fails o v (Some x) (Some y) (stops.Memory d) rendered = begins o v (Some x) (Some y) rendered.0 rendered.1 rendered.2 rendered.3

-- all of it was written
abbrev IsLaid : RenderOptions → SexpValue → Option (List ℕ) → Option (List ℕ) → Type 0
IsLaid o v old new = (bytes : List ℕ) × (layout_of_value o v ≡ Whole bytes) × Appends old new bytes

pub laid : {A E : Type 0} (fails : E → Type 0) (o : RenderOptions) (v : SexpValue) (old new : Option (List ℕ)) (done : A)
    → RendersKnown fails (layout_of_value o v) old new (Ok done) → IsLaid o v old new
laid fails o v None new done rendered = ((layout_whole o v).0, (layout_whole o v).1, tt)
laid fails o v (Some x) None done rendered = absurd rendered
laid fails o v (Some x) (Some y) done rendered = rendered

-- ---- the line feed after it

pub line_ended : {A : Type 0} (o : RenderOptions) (v : SexpValue) (old mid new : Option (List ℕ)) (r : Result A RunError)
    → IsLaid o v old mid
    → OnOk r (Appends mid new (input_line_feed ∷ [])) → OnErr r (AppendsProperBeginning mid new (input_line_feed ∷ [])) →
    IfErr r IsWriterFailure
    → WritesValue o v old new r
line_ended o v old mid new (Ok done) whole ok beginning err =
    (whole.0, whole.1, Appends-trans old mid new whole.0 (input_line_feed ∷ []) whole.2 ok)
line_ended o v old mid new (Err NotAnSexp) whole ok beginning err = absurd err
line_ended o v old mid new (Err (Memory e)) whole ok beginning err = absurd err
line_ended o v old mid new (Err (Read e)) whole ok beginning err = absurd err
line_ended o v old mid new (Err (Write e)) whole ok b err = (
  whole.0 ++ b.0,
  b.1,
  ap (λ y. bytes_in y ++ input_line_feed ∷ []) whole.1 ∙ ap (λ (x : List ℕ). whole.0 ++ x) b.2 ∙ sym (append_assoc whole.0 b.0 b.1),
  b.3,
  Appends-trans old mid new whole.0 b.0 whole.2 b.4,
)

-- ---- both

-- what was written is of the value that was given
pub ran : {A : Type 0} (o : RenderOptions) (given old new : Option (List ℕ)) (v : SexpValue) (r : Result A RunError) → GivesValue given v
    → WritesValue o v old new r → RunsFormatter o given old new r
ran o given old new v (Ok done) gives written = (v, gives, written)
ran o given old new v (Err NotAnSexp) gives written = absurd written
ran o given old new v (Err (Read e)) gives written = absurd written
ran o given old new v (Err (Memory e)) gives written = inr (v, gives, written)
ran o given old new v (Err (Write e)) gives written = (v, gives, written)

-- ---- before anything is written

keeps : (old : Option (List ℕ)) → Keeps old old
keeps None = tt
keeps (Some x) = refl

-- the input could not be read
pub not_read : {A : Type 0} (o : RenderOptions) (given old : Option (List ℕ)) (r : Result A RunError) (e : RunError)
    → IsErrAnd r (λ f. f ≡ e) → IsReading e → RunsFormatter o given old old r
not_read o given old (Ok done) e failed reading = absurd failed
not_read o given old (Err NotAnSexp) e failed reading = absurd (subst IsReading (sym failed) reading)
not_read o given old (Err (Memory f)) e failed reading = inl (keeps old)
not_read o given old (Err (Read f)) e failed reading = keeps old
not_read o given old (Err (Write f)) e failed reading = absurd (subst IsReading (sym failed) reading)

-- no value is read from what was given, where none is from the input
none_given : (given left : Option (List ℕ)) (input : List ℕ) → Consumes given left input → IsAtEnd left ⊎ (1048576 < length input)
    → ((v : SexpValue) → ReadsValue input v → ⊥) → IfSome given (λ bytes. (v : SexpValue) → ReadsValue bytes v → ⊥)
none_given None left input taken all none = tt
none_given (Some bytes) None input taken all none = absurd taken
none_given (Some bytes) (Some rest) input taken (inl end) none =
    λ v r. none v (subst (λ bs. ReadsValue bs v) (taken ∙ ap (λ (x : List ℕ). input ++ x) end ∙ append-nil input) r)
none_given (Some bytes) (Some rest) input taken (inr long) none = λ v r. let size = rw taken at r.size in
    absurd (omega (arith, size, length-append input rest))

-- the input was refused
pub not_parsed : {A : Type 0} (o : RenderOptions) (given left old : Option (List ℕ)) (input : List ℕ) (r : Result A RunError) (e : RunError)
    → IsErrAnd r (λ f. f ≡ e) → Consumes given left input → IsAtEnd left ⊎ (1048576 < length input)
    → RefusesInput e ((v : SexpValue) → ReadsValue input v → ⊥) → RunsFormatter o given old old r
not_parsed o given left old input (Ok done) e failed taken all refused = absurd failed
not_parsed o given left old input (Err NotAnSexp) e failed taken all refused = (
  keeps old,
  none_given given left input taken all (subst (λ f. RefusesInput f ((v : SexpValue) → ReadsValue input v → ⊥))
      (sym failed) refused),
)
not_parsed o given left old input (Err (Memory f)) e failed taken all refused = inl (keeps old)
not_parsed o given left old input (Err (Read f)) e failed taken all refused = keeps old
not_parsed o given left old input (Err (Write f)) e failed taken all refused =
    absurd (subst (λ f. RefusesInput f ((v : SexpValue) → ReadsValue input v → ⊥)) (sym failed) refused)
