-- Layouts byte by byte: the texts of a document, with line ends and indents and nothing else.
use Rattle.std.specs.Prelude.{◌≡◌, ℕ, Bool, true, false, List, [], ◌∷◌, ◌++◌, ◌⊎◌, ⊤}
use Rattle.prettyless_model.specs.Options.{ending}
use Rattle.prettyless_model.specs.Spaces.{spaces}
use Rattle.prettyless_model.specs.Tree as t
use Rattle.prettyless_model.specs.Tree.{Tree}
use Rattle.prettyless_model.specs.declared.mode.Mode.{Mode}
use Rattle.prettyless_model.specs.declared.mode.Mode.TheVariants.{Break, Flat}
use Rattle.prettyless_model.specs.declared.options.RenderOptions.{RenderOptions}

-- a text, or the end of a line
pub data Bit : Type 0 where
  text_of : List ℕ → Bit
  end_of_line : Bit

-- an empty text is nothing
abbrev pub word_bits : List ℕ → List Bit
word_bits [] = []
word_bits (b ∷ bs) = text_of (b ∷ bs) ∷ []

-- A document may be spelled so in a mode: a group on one line, or broken.
abbrev pub IsSpelled : Tree → Mode → List Bit → Type 0
IsSpelled t.Nil m bits = bits ≡ []
IsSpelled (t.Text s) m bits = bits ≡ word_bits s
IsSpelled (t.TextWithLen w s) m bits = bits ≡ word_bits s
IsSpelled t.HardLine m bits = bits ≡ end_of_line ∷ []
IsSpelled (t.Append l r) m bits = (xs : List Bit) × (ys : List Bit) × IsSpelled l m xs × IsSpelled r m ys × (bits ≡ xs ++ ys)
IsSpelled (t.Indented how d) m bits = IsSpelled d m bits
IsSpelled t.ExpandParent m bits = bits ≡ []
IsSpelled (t.BreakOrFlat b f) Break bits = IsSpelled b Break bits
IsSpelled (t.BreakOrFlat b f) Flat bits = IsSpelled f Flat bits
IsSpelled (t.Group d) Break bits = IsSpelled d Break bits ⊎ IsSpelled d Flat bits
IsSpelled (t.Group d) Flat bits = IsSpelled d Flat bits
IsSpelled _ m bits = ⊤

-- nothing in a document is weak or put off, no payload, no failure, no union and no choice by column or nesting
abbrev pub IsExact : Tree → Type 0
IsExact t.Nil = ⊤
IsExact (t.Text s) = ⊤
IsExact (t.TextWithLen w s) = ⊤
IsExact t.HardLine = ⊤
IsExact (t.Append l r) = IsExact l × IsExact r
IsExact (t.Indented how d) = IsExact d
IsExact t.ExpandParent = ⊤
IsExact (t.BreakOrFlat b f) = IsExact b × IsExact f
IsExact (t.Group d) = IsExact d
IsExact _ = ⊥

-- The bytes are these texts and line ends, the first of which begins a line or not: before a text that begins a line stand spaces,
-- maybe none, and nothing else stands before or after any.
abbrev pub AreWritten : RenderOptions → Bool → List Bit → List ℕ → Type 0
AreWritten o fresh [] bytes = bytes ≡ []
AreWritten o fresh (end_of_line ∷ bits) bytes = (rest : List ℕ) × (bytes ≡ ending o.line_ending ++ rest) × AreWritten o true bits rest
AreWritten o true (text_of s ∷ bits) bytes = (n : ℕ) × (rest : List ℕ) × (bytes ≡ spaces n ++ (s ++ rest)) × AreWritten o false bits rest
AreWritten o false (text_of s ∷ bits) bytes = (rest : List ℕ) × (bytes ≡ s ++ rest) × AreWritten o false bits rest
