-- Where texts are refused.
use Rattle.std.proofs.Common.{◌≡◌, sym, subst, ℕ, min, Bool, true, false, cond, List, take, length, arith}
use Rattle.std.specs.Prelude.{Option, Some, None, IfSome}
use Rattle.std.proofs.lemmas.List.{take_min}
use Rattle.text_lexemes.specs.Places.{IsPlace, IsPlaceWithin}
use Rattle.text_lexemes.specs.declared.place.Place.{Place}
use Rattle.toml_grammar.specs.Refusals.{IsMissed, IsOpenedPlace}
use Rattle.toml_grammar.specs.declared.expected.Expected.{Expected}
use Rattle.toml_grammar.specs.declared.expected.Expected.TheVariants as want
use Rattle.toml_grammar.specs.declared.fault.Fault.{Fault}
use Rattle.toml_grammar.specs.declared.opened.Opened.{Opened}

-- a place after so many bytes, or after all where there are fewer
pub within_text : (text : List ℕ) (n : ℕ) (place : Place) → IsPlace (take n text) place → IsPlaceWithin text place
within_text text n place h =
    (min n (length text), omega arith, subst (λ (s : List ℕ). IsPlace s place) (sym (take_min n text)) h)

of_some : (text : List ℕ) (answer : Option Place) (place : Place) → answer ≡ Some place → IsPlaceWithin text place
    → IfSome answer (IsPlaceWithin text)
of_some text answer place e h = subst (λ (a : Option Place). IfSome a (IsPlaceWithin text)) (sym e) h

of_none : (text : List ℕ) (answer : Option Place) → answer ≡ None → IfSome answer (IsPlaceWithin text)
of_none text answer e = subst (λ (a : Option Place). IfSome a (IsPlaceWithin text)) (sym e) tt

picked : (text : List ℕ) (b : Bool) (answer : Option Place) (place : Place) → answer ≡ cond b (Some place) None → IsPlaceWithin text place
    → IfSome answer (IsPlaceWithin text)
picked text true answer place e h = of_some text answer place e h
picked text false answer place e h = of_none text answer e

missed_within : (text : List ℕ) (fault : Fault) (o : Option Opened) (answer : Option Place) → IsMissed text fault o answer
    → IfSome answer (IsPlaceWithin text)
missed_within text fault None answer h = of_none text answer h
missed_within text fault (Some opened) answer h = picked text _ answer h.place h.is (within_text text opened.offset h.place h.at)

-- what is opened is within the text
pub opened_within : (text : List ℕ) (fault : Fault) (e : Expected) (o : Option Opened) (answer : Option Place)
    → IsOpenedPlace text fault e o answer → IfSome answer (IsPlaceWithin text)
opened_within text fault want.Quote o answer h = of_some text answer h.0 h.1 (within_text text fault.offset h.0 h.2)
opened_within text fault want.Quotes o answer h = of_some text answer h.0 h.1 (within_text text fault.offset h.0 h.2)
opened_within text fault e o answer h = missed_within text fault o answer h
