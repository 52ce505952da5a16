use Rattle.json_grammar.proofs.Begun.{fronts_begin, strings_begin, texts_begin}
use Rattle.json_grammar.proofs.Content.{stops_once}
use Rattle.json_grammar.proofs.Stopped.{ends_too_soon, none_goes_on, whole_texts}
use Rattle.json_grammar.proofs.laws.law_stops.Goals as goal

pub returns-clause-whole : goal.returns-clause-whole
returns-clause-whole c = whole_texts

pub returns-clause-lexeme : goal.returns-clause-lexeme
returns-clause-lexeme c = none_goes_on

pub returns-clause-end : goal.returns-clause-end
returns-clause-end c = ends_too_soon

pub returns-clause-front : goal.returns-clause-front
returns-clause-front c = fronts_begin

pub returns-clause-all : goal.returns-clause-all
returns-clause-all c = texts_begin

pub returns-clause-string : goal.returns-clause-string
returns-clause-string c = stops_once

pub returns-clause-inside : goal.returns-clause-inside
returns-clause-inside c = strings_begin
