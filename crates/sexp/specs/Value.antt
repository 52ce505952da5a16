-- What an S-expression is, wherever it lies in memory.
use Rattle.std.specs.Prelude.{ℕ, suc, max, List, [], ◌∷◌}

mutual
  -- a number, or a list of values
  pub data SexpValue : Type 0 where
    number : ℕ → SexpValue
    list : Values → SexpValue

  -- the values of a list, in order
  pub data Values : Type 0 where
    none : Values
    first : SexpValue → Values → Values

-- how many parentheses are open at once, at most
abbrev mutual
  pub value_depth : SexpValue → ℕ
  value_depth (number n) = 0
  value_depth (list vs) = suc (depth_of_all vs)

  pub depth_of_all : Values → ℕ
  depth_of_all none = 0
  depth_of_all (first v vs) = max (value_depth v) (depth_of_all vs)

-- these values, and then the others
abbrev pub values_before : List SexpValue → Values → Values
values_before [] vs = vs
values_before (w ∷ ws) vs = first w (values_before ws vs)

-- these values and no others
abbrev pub values_of : List SexpValue → Values
values_of ws = values_before ws none
