-- Which bytes are the text of an S-expression of numbers:
-- value = digits | "(" [value {" " value}] ")"
use Rattle.std.specs.Prelude.{◌≡◌, ℕ, ◌^◌, ◌<◌, ◌≤◌, ◌⊎◌, List, [], ◌∷◌, ◌++◌, length}
use Rattle.std.specs.Str.Parse.{IsNumeral, digits_value}
use Rattle.sexp.specs.Value.{SexpValue, Values, number, list, none, first, value_depth}

-- "("
abbrev pub opening : ℕ
opening = 40

-- ")"
abbrev pub closing : ℕ
closing = 41

-- " "
abbrev pub input_space : ℕ
input_space = 32

-- LF
abbrev pub input_line_feed : ℕ
input_line_feed = 10

-- one or more decimal digits that write this number, with leading zeros or without
abbrev pub IsDecimal : List ℕ → ℕ → Type 0
IsDecimal text n = IsNumeral 10 text × (n ≡ digits_value 10 text)

abbrev mutual
  -- digits of a number up to 4294967295, or a list in parentheses
  pub IsValueText : SexpValue → List ℕ → Type 0
  IsValueText (number n) text = IsDecimal text n × (n < 2 ^ 32)
  IsValueText (list vs) text = (inner : List ℕ) × (text ≡ opening ∷ inner ++ closing ∷ []) × AreTexts vs inner

  -- [value {" " value}]
  pub AreTexts : Values → List ℕ → Type 0
  AreTexts none text = text ≡ []
  AreTexts (first v vs) text = (front : List ℕ) × (back : List ℕ) × (text ≡ front ++ back) × IsValueText v front × AreSpaced vs back

  -- {" " value}
  pub AreSpaced : Values → List ℕ → Type 0
  AreSpaced none text = text ≡ []
  AreSpaced (first v vs) text = (front : List ℕ) × (back : List ℕ) × (text ≡ input_space ∷ front ++ back) × IsValueText v front
      × AreSpaced vs back

-- the text of the value, with a line feed after it or without
abbrev pub IsValueLine : SexpValue → List ℕ → Type 0
IsValueLine v line = IsValueText v line ⊎ ((text : List ℕ) × (line ≡ text ++ input_line_feed ∷ []) × IsValueText v text)

-- The input is read as this value: it is its line, of at most 1,048,576 bytes, with at most 200 parentheses open at once.
pub record ReadsValue (input : List ℕ) (v : SexpValue) : Type 0 where
  pub line : IsValueLine v input
  pub nesting : value_depth v ≤ 200
  pub size : length input ≤ 1048576
