-- What an account that grew says of its parts.
use Rattle.std.proofs.Common.{◌≡◌, ℕ, List, ◌++◌, length, take, ap, sym, ◌∙◌, append_assoc}
use Rattle.std.proofs.Math.Seq.{take-append_seam}
use Rattle.std.proofs.lemmas.List.{append_cancel_left}
use Rattle.prettyless_exports.specs.Account.{account}

-- an account from before the bytes `more` were given, and one from after that
pub record Grew (limit limit' : ℕ) (before before' given given' more : List ℕ) : Type 0 where
  pub same_limit : limit' ≡ limit
  pub same_before : before' ≡ before
  pub grown : given' ≡ given ++ more

pub account_grew : (limit limit' : ℕ) (before before' given given' more : List ℕ)
    → account limit' before' given' ≡ account limit before given ++ more → Grew limit limit' before before' given given' more
account_grew limit limit' before before' given given' more e =
    let long : length before' ≡ length before = cc in
    let all : before' ++ given' ≡ before ++ (given ++ more) = cc (append_assoc before given more) in
    let same : before' ≡ before = sym (take-append_seam before' given') ∙ ap (λ (x : List ℕ). take (length before') x) all
    ∙ ap (λ (n : ℕ). take n (before ++ (given ++ more))) long ∙ take-append_seam before (given ++ more) in
    record {
      same_limit = cc;
      same_before = same;
      grown = append_cancel_left before given' (given ++ more)
          (ap (λ (x : List ℕ). x ++ given') (sym same) ∙ all);
    }
