-- A text that is a value has the tokens of that value, which nests no deeper than it may.
use Rattle.std.proofs.Common.{◌≡◌, ◌≤◌, ◌↔◌, ℕ, List, [], ◌∷◌, Option, Some, None, IsSome, is_some, option_and_then, append-nil, refl}
use Rattle.std.proofs.Common.{sym, ap, ◌∙◌, arith}
use Rattle.std.proofs.lemmas.Bool.{false≢true}
use Rattle.json.specs.Token.{Token}
use Rattle.json.specs.Lex.{tokens}
use Rattle.json.specs.Json.{Json, if_last, value}
use Rattle.json.specs.Tree.{depth, json_tokens}
use Rattle.json.proofs.Found.{not_found, Some_inj}
use Rattle.json.proofs.Nesting.{value-depth}
use Rattle.json.proofs.Printed.Trees.{value-json_tokens}
use Rattle.json.proofs.Unique.Spelling.{value-json_tokens_back}
use Rattle.json_validity.specs.Document.{document, document_within, IsJsonWithin, max_depth}

-- the value is read first, and then no token is left
last : (o : Option (Json × List Token)) (j : Json) → option_and_then (λ p. if_last p.0 p.1) o ≡ Some j → o ≡ Some (j, [])
last None j e = not_found j e
last (Some (i, [])) j e = ap (λ x. Some (x, [])) (Some_inj i j e)
last (Some (i, t ∷ ts)) j e = not_found j e

module _ (most : ℕ) (text : List ℕ) (j : Json) (e : document_within most text ≡ Some j) where
  whole_value : value most (tokens text) ≡ Some (j, [])
  whole_value = last (value most (tokens text)) j e

  tokens_within : tokens text ≡ json_tokens j
  tokens_within = value-json_tokens_back most (tokens text) [] j whole_value ∙ append-nil (json_tokens j)

  depth_within : depth j ≤ most
  depth_within = value-depth most (tokens text) [] j whole_value

pub document_tokens : (text : List ℕ) (j : Json) → document text ≡ Some j → tokens text ≡ json_tokens j
document_tokens text j e = tokens_within max_depth text j e

pub document_depth : (text : List ℕ) (j : Json) → document text ≡ Some j → depth j ≤ max_depth
document_depth text j e = depth_within max_depth text j e

-- it is read with as many levels as its value has, or more
read_within : (text : List ℕ) (j : Json) (n : ℕ) → tokens text ≡ json_tokens j → depth j ≤ n → document_within n text ≡ Some j
read_within text j n are le =
    ap (λ ts. option_and_then (λ p. if_last p.0 p.1) (value n ts)) (are ∙ sym (append-nil (json_tokens j)))
    ∙ ap (option_and_then (λ p. if_last p.0 p.1)) (value-json_tokens j n [] le)

-- just the texts are read with so many levels that are such values
pub within : (most : ℕ) (text : List ℕ) → most ≤ max_depth → IsSome (document_within most text) ↔ IsJsonWithin most text
within most text le = (by (document_within most text) refl, back)
  where
    by : (o : Option Json) → document_within most text ≡ o → IsSome (document_within most text) → IsJsonWithin most text
    by None e some = absurd (false≢true (sym (ap is_some e) ∙ some))
    by (Some j) e some =
        let shallow = depth_within most text j e in
        record { json = j; is = read_within text j max_depth (tokens_within most text j e) (omega arith); shallow = shallow }

    back : IsJsonWithin most text → IsSome (document_within most text)
    back h = ap is_some (read_within text h.json most (document_tokens text h.json h.is) h.shallow)
