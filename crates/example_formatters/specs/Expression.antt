-- What a term is, wherever it lies in memory.
use Rattle.std.specs.Prelude.{ℕ, ◌<◌, ◌^◌}

-- a number, the negation of an expression, or the sum or the product of two
pub data Expression : Type 0 where
  number : ℕ → Expression
  negation : Expression → Expression
  sum : Expression → Expression → Expression
  product : Expression → Expression → Expression

-- each number has at most 32 bits
abbrev pub HasSmallNumbers : Expression → Type 0
HasSmallNumbers (number n) = n < 2 ^ 32
HasSmallNumbers (negation e) = HasSmallNumbers e
HasSmallNumbers (sum l r) = HasSmallNumbers l × HasSmallNumbers r
HasSmallNumbers (product l r) = HasSmallNumbers l × HasSmallNumbers r
