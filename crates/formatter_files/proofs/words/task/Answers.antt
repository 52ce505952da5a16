use Rattle.std.proofs.Common.{rules, ap, ◌∙◌, ◌≡◌, refl, sym, codes, Option, Some, None, Ok, List, [], map, option_map, unwrap_or, Bor, not}
use Rattle.clap.proofs.WalkLemmas.{raw_values-rows}
use Rattle.clap.specs.Words.{Text, found_of}
use Rattle.formatter_files.proofs.words.task.Goals as goal

-- the files, of which there may be no list
abbrev texts : Bor (List (Bor Text)) → List Text
texts files = map (λ file. file.now) files.now

listed : (got : Option (Bor (List (Bor Text)))) (none : Bor (List (Bor Text))) → none.now ≡ [] →
    texts (unwrap_or got none) ≡ unwrap_or (option_map texts got) []
listed None none empty = ap (map (λ file. file.now)) empty
listed (Some files) none empty = refl

pub returns-clause-ok : goal.returns-clause-ok
returns-clause-ok c =
    let found = found_of c.args.matches.now in
    let is : c.action.result ≡ Ok c.in_ok-action.field-0 = search rules in
    record {
      action = sym c.action.ensures ∙ is;
      editorconfig = ap not c.has_flag.ensures;
      has_width = c.is_given.ensures;
      has_indent = c.is_given-2.ensures;
      files = ap (λ (items : List (Bor Text)). map (λ file. file.now) items) c.in_ok-from_slice.ensures.items
          ∙ (ap texts c.unwrap_or.ensures ∙ (listed c.get_strs.result _ refl
          ∙ ap (λ (given : Option (List Text)). unwrap_or given []) (c.get_strs.ensures ∙ raw_values-rows found (codes "FILE"))));
    }
