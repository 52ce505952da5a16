use Rattle.std.proofs.Common.{None}
use Rattle.prettyless_model.specs.Shows.{at_start}
use Rattle.prettyless_model.proofs.Showing.{layout_shows}
use Rattle.shown_lexemes.proofs.ShownTexts.{shown_are_lexemes, set_apart, fixed_texts}
use Rattle.shown_lexemes.proofs.laws.law_shown.Goals as goal

pub returns-clause-shown : goal.returns-clause-shown
returns-clause-shown g c = shown_are_lexemes

pub returns-clause-table : goal.returns-clause-table
returns-clause-table g c = λ L table bytes items passes asked shown.
    shown_are_lexemes L bytes items passes (set_apart L table items None at_start tt asked) shown

pub returns-clause-layouts : goal.returns-clause-layouts
returns-clause-layouts g c = λ L o d bytes items passes apart shows is.
    shown_are_lexemes L bytes items passes apart (layout_shows o d bytes items shows is)

pub returns-clause-fixed : goal.returns-clause-fixed
returns-clause-fixed g c = fixed_texts
