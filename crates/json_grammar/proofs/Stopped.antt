-- Where a text stops being JSON, and what that says of it and of others.
use Rattle.std.proofs.Common.{◌≡◌, ℕ, List, [], ◌∷◌, Option, Some, None, IsSome, is_some, option_and_then, refl, sym, ap, ◌∙◌, append-nil}
use Rattle.std.proofs.lemmas.Bool.{false≢true}
use Rattle.json.specs.Json.{Json}
use Rattle.json.proofs.Found.{not_found, Some_inj}
use Rattle.json_validity.specs.Document.{document}
use Rattle.json_lexemes.specs.Lexemes.{lexemes}
use Rattle.json_lexemes.specs.SpacedLexemes.{lexemes_of}
use Rattle.json_lexemes.proofs.SpacedLexemes.{spaced_are_lexemes}
use Rattle.json_grammar.specs.Faults.{ReachesJson}
use Rattle.json_grammar.specs.Laws.{EndsTooSoon, IsWhole, NoneGoesOn, WholeTextsAreJson}
use Rattle.json_grammar.specs.Readings.{JsonReading, before, first_json_reading, json_reading_after}
use Rattle.json_grammar.specs.declared.expected.Expected.TheVariants as want
use Rattle.json_grammar.proofs.Accepted.{accepted}
use Rattle.json_grammar.proofs.Completed.{is_document}
use Rattle.json_grammar.proofs.Reached.{read-append}

pub whole_texts : WholeTextsAreJson
whole_texts text = (by (document text) refl, λ whole. is_document text whole.0 whole.1 whole.2)
  where
    by : (o : Option Json) → document text ≡ o → IsSome o → IsWhole text
    by None e some = absurd (false≢true some)
    by (Some v) e some = (before [] want.End, accepted text v e, refl)

-- what is not whole is not JSON
no_document : (text : List ℕ) → (IsWhole text → ⊥) → document text ≡ None
no_document text not = by (document text) refl
  where
    by : (o : Option Json) → document text ≡ o → document text ≡ None
    by None e = e
    by (Some v) e = absurd (not (before [] want.End, accepted text v e, refl))

pub none_goes_on : NoneGoesOn
none_goes_on text offset e stop other later same = no_document other not
  where
    stopped : json_reading_after first_json_reading (lexemes other) ≡ None
    stopped =
        ap (json_reading_after first_json_reading) same
        ∙ read-append (lexemes_of stop.reached.front) (stop.found.lexeme ∷ later) first_json_reading
        ∙ ap (option_and_then (λ (t : JsonReading). json_reading_after t (stop.found.lexeme ∷ later))) stop.reached.reads
        ∙ ap (option_and_then (λ (t : JsonReading). json_reading_after t later)) stop.stops

    not : IsWhole other → ⊥
    not whole = not_found whole.0 (sym stopped ∙ whole.1)

-- all lexemes of a text that was read to its end
pub all_read : (text : List ℕ) (reading : JsonReading) → ReachesJson text [] reading
    → json_reading_after first_json_reading (lexemes text) ≡ Some reading
all_read text reading reached =
    let same : lexemes text ≡ lexemes_of reached.front =
    sym (spaced_are_lexemes text) ∙ ap lexemes_of reached.cut ∙ ap lexemes_of (append-nil reached.front) in
    ap (json_reading_after first_json_reading) same ∙ reached.reads

pub ends_too_soon : EndsTooSoon
ends_too_soon text offset e stop = no_document text not
  where
    not : IsWhole text → ⊥
    not whole =
        let same : whole.0 ≡ stop.reading = Some_inj whole.0 stop.reading (sym whole.1 ∙ all_read text stop.reading stop.reached) in
        stop.unfinished (ap (λ (r : JsonReading). r.next) (sym same) ∙ whole.2)

-- a text that is not JSON and was read to its end ends too soon
pub unfinished : (text : List ℕ) (reading : JsonReading) → ReachesJson text [] reading → document text ≡ None → reading.next ≡ want.End → ⊥
unfinished text reading reached none end =
    false≢true (sym (ap is_some none) ∙ is_document text reading (all_read text reading reached) end)
