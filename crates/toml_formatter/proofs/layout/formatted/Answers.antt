use Rattle.std.proofs.Common.{◌≡◌, true, false, List, ℕ, Result, Ok, Err, IfOk, IfErr, OnOk}
use Rattle.std.specs.String.{string_bytes}
use Rattle.toml_grammar.specs.Grammar.{is_toml}
use Rattle.toml_grammar.specs.Nesting.{is_too_deep}
use Rattle.toml_formatter.specs.Errors.{IsRefusalOf}
use Rattle.toml_formatter.specs.Formats.{IsFormattedToml, IsRefusedToml, IsTomlLayout}
use Rattle.toml_documents.specs.Laid.{IsLaidToml}
use Rattle.toml_formatter.specs.declared.error.FormatError.{FormatError}
use Rattle.toml_formatter.specs.declared.error.FormatError.TheVariants.{NotToml, TooDeep, Memory}
use Rattle.toml_documents.specs.declared.style.Style.{Style}
use Rattle.toml_documents.proofs.LaidTexts.{layouts_are_toml}
use Rattle.toml_formatter.proofs.SoundTexts.{sound_text}
use Rattle.toml_formatter.proofs.layout.formatted.Goals as goal

-- where the text is TOML, it was refused for its depth alone, or memory was
refused : {A : Type 0} (text : List ℕ) (x : Result A FormatError) → is_toml text ≡ true → IfErr x (IsRefusalOf text) → IfErr x (IsRefusedToml text)
refused text (Ok layout) toml h = tt
refused text (Err NotToml) toml h = absurd h
refused text (Err TooDeep) toml h = (toml, h)
refused text (Err (Memory e)) toml h = tt

-- and its layout is TOML, as each is
formatted_as : {A : Type 0} (style : Style) (text : List ℕ) (bytes : A → List ℕ) (x : Result A FormatError) → is_toml text ≡ true
    → IfOk x (λ layout. IsTomlLayout text (bytes layout)) → IfOk x (λ layout. IsLaidToml style text (bytes layout))
    → OnOk x (is_too_deep text ≡ false) → IfOk x (λ layout. IsFormattedToml text (bytes layout))
formatted_as style text bytes (Ok layout) toml ok laid shallow =
    record { toml = toml; shallow = shallow; valid = layouts_are_toml style text (bytes layout) toml laid; same = ok.same }
formatted_as style text bytes (Err e) toml ok laid shallow = tt

pub laid_out-requires : goal.laid_out-requires
laid_out-requires c =
    let toml = rw c.in-None.is at c.in_ok-fault_of.ensures.toml in
    sound_text c.args.text.now c.law_closed_strings.ensures.strings toml

pub returns-in-None-clause-ok : goal.returns-in-None-clause-ok
returns-in-None-clause-ok c =
    let toml = rw c.in-None.is at c.in_ok-fault_of.ensures.toml in
    formatted_as c.args.style c.args.text.now string_bytes c.laid_out.result toml c.laid_out.ensures.ok c.laid_out.ensures.laid
    c.laid_out.ensures.shallow

pub returns-in-None-clause-err : goal.returns-in-None-clause-err
returns-in-None-clause-err c =
    let toml = rw c.in-None.is at c.in_ok-fault_of.ensures.toml in
    refused c.args.text.now c.laid_out.result toml c.laid_out.ensures.err
