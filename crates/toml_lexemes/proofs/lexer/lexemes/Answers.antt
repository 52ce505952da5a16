use Rattle.std.proofs.Common.{◌≡◌, ℕ, List, [], ◌∷◌, ◌++◌, map, All, sym, ap, ◌∙◌, subst, append_assoc}
use Rattle.std.proofs.lemmas.List.{map-append}
use Rattle.std.proofs.lemmas.List.Elements.{All-push}
use Rattle.toml_lexemes.specs.Lexemes.{toml_lexemes_of}
use Rattle.toml_lexemes.specs.View.{toml_text_of, HasTomlKind}
use Rattle.toml_lexemes.specs.declared.lexeme.Lexeme.{Lexeme}
use Rattle.toml_lexemes.proofs.lexer.lexemes.Goals as goal

one_more : (found : List Lexeme) (l : Lexeme) (old new all : List (List ℕ)) → map toml_text_of found ++ old ≡ all →
    old ≡ toml_text_of l ∷ new
    → map toml_text_of (found ++ l ∷ []) ++ new ≡ all
one_more found l old new all h e =
    ap (λ t. t ++ new) (map-append toml_text_of found (l ∷ [])) ∙ append_assoc (map toml_text_of found) (toml_text_of l ∷ []) new
    ∙ ap (λ t. map toml_text_of found ++ t) (sym e) ∙ h

pub loop-lexeme-preserved : goal.loop-lexeme-preserved
loop-lexeme-preserved c =
    let found = c.loop-lexeme.found.items in
    let l = c.in-Some.lexeme in
    record {
      texts = subst (λ f. map toml_text_of f ++ c.next.new.self ≡ toml_lexemes_of c.args.text.now) (sym c.in_ok-push.ensures.items)
          (one_more found l _ c.next.new.self _ c.loop-lexeme.invariant.texts c.in-Some.ensures.steps.0);
      names = subst (All HasTomlKind) (sym c.in_ok-push.ensures.items)
          (All-push HasTomlKind found l c.loop-lexeme.invariant.names c.in-Some.ensures.steps.1);
    }
