-- What calls that build promise of their results.
use Rattle.std.specs.Prelude.{◌≡◌, ◌⊎◌, Bool, IsTrue, Result, Ok, IfOk, IfErr}
use Rattle.prettyless_model.specs.Tree.{Tree}
use Rattle.prettyless_doc.specs.BuildErrors.{IsMemory}
use Rattle.prettyless_doc.specs.declared.doc.BuildDoc.{BuildDoc}
use Rattle.prettyless_doc.specs.declared.doc.BuildDoc.TheVariants.{DocPtr as Placed, Doc as Plain}
use Rattle.prettyless_text.specs.declared.text.BuildError.{BuildError}

-- What a call that builds promises of its result: `seen` is the tree of what it answers, and `wanted` the tree it makes.
pub record Builds {B : Type 0} (result : Result B BuildError) (seen : B → Tree) (wanted : Tree) : Type 0 where
  -- `Ok`: what it answers has this tree.
  pub ok : IfOk result (λ b. seen b ≡ wanted)
  -- `Err`: memory was refused.
  pub err : IfErr result IsMemory

-- The same of a call that gives `before` back as it is where it `keeps` it, which takes no memory.
pub record BuildsOrKeeps {B : Type 0} (result : Result B BuildError) (seen : B → Tree) (wanted : Tree) (keeps : Bool)
    (before : B) : Type 0 where
  -- `Ok`: what it answers has this tree.
  pub ok : IfOk result (λ b. seen b ≡ wanted)
  -- Where nothing is to be done, the call succeeds, and changes nothing.
  pub same : IsTrue keeps → result ≡ Ok before
  -- `Err`: memory was refused.
  pub err : IfErr result IsMemory

-- The same of a call that makes a tree of the one that its operand becomes, and may answer an error of that operand.
pub record BuildsOf {B : Type 0} (result : Result B BuildError) (seen : B → Tree) (becomes : Tree → Type 0) (refuses : BuildError → Type 0)
    (makes : Tree → Tree) : Type 0 where
  -- `Ok`: what it answers has the tree that is made of one that the operand may become.
  pub ok : IfOk result (λ b. (y : Tree) × becomes y × (seen b ≡ makes y))
  -- `Err`: the operand answered this error, or memory was refused.
  pub err : IfErr result (λ e. refuses e ⊎ IsMemory e)

-- The same of a call that makes a tree of those that two operands become.
pub record BuildsOfTwo {B : Type 0} (result : Result B BuildError) (seen : B → Tree) (first second : Tree → Type 0)
    (refuses_first refuses_second : BuildError → Type 0) (makes : Tree → Tree → Tree) : Type 0 where
  -- `Ok`: what it answers has the tree that is made of one that the first operand may become and one of the second.
  pub ok : IfOk result (λ b. (x : Tree) × (y : Tree) × first x × second y × (seen b ≡ makes x y))
  -- `Err`: one of the operands answered this error, or memory was refused.
  pub err : IfErr result (λ e. refuses_first e ⊎ refuses_second e ⊎ IsMemory e)

-- no error: the call succeeds
abbrev pub IsNever : BuildError → Type 0
IsNever e = ⊥

-- P of the pointer, if the document has one already
abbrev pub IfPlaced : {T : Type 0} → BuildDoc T → (T → Type 0) → Type 0
IfPlaced (Placed p) P = P p
IfPlaced (Plain d) P = Unit {0}

-- an error that P or Q knows, or a refusal of memory
abbrev pub refused : (BuildError → Type 0) → (BuildError → Type 0) → BuildError → Type 0
refused P Q e = P e ⊎ Q e ⊎ IsMemory e
