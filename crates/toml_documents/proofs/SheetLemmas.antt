-- Sheets, to which lines are added.
use Rattle.std.proofs.Common.{◌≡◌, ℕ, Bool, true, false, List, [], ◌++◌, refl, sym, ap, subst, ◌∙◌, append-nil, append_assoc}
use Rattle.std.proofs.Common.{if◌then◌else◌}
use Rattle.std.specs.String.{string_bytes}
use Rattle.std.specs.Global.{Global}
use Rattle.std.specs.declared.string.String.{String}
use Rattle.toml_lexemes.specs.SpacedLexemes.{toml_spaced_lexemes}
use Rattle.toml_documents.specs.Alignment.{comments_as, with_aligned_comments}
use Rattle.toml_documents.specs.Sheets.{settled_lines, AreWalked, IsSheet}
use Rattle.toml_documents.specs.Walks.{first_walk, walked}
use Rattle.toml_documents.specs.declared.sheet.Sheet.{Sheet}
use Rattle.toml_documents.specs.declared.walk.LinesRead.{LinesRead}
use Rattle.toml_documents.proofs.Walking.{aligned_before, settled_is, walked_more}

-- lines whose comments are not aligned are as they are
unaligned : (align : Bool) (bytes : List ℕ) → align ≡ false → comments_as align bytes ≡ bytes
unaligned align bytes e = ap (λ (b : Bool). if b then with_aligned_comments bytes else bytes) e

aligned : (align : Bool) (bytes : List ℕ) → align ≡ true → comments_as align bytes ≡ with_aligned_comments bytes
aligned align bytes e = ap (λ (b : Bool). if b then with_aligned_comments bytes else bytes) e

-- no line waits
no_line : (bytes : List ℕ) → bytes ≡ [] → AreWalked first_walk bytes
no_line bytes e = record {
  spaced = [];
  lexemes = tt;
  walk = refl;
  before = λ later. ap (λ (b : List ℕ). toml_spaced_lexemes (b ++ later)) e;
}

-- no line
pub new_sheet : (align : Bool) (done waiting : String Global) → string_bytes done ≡ [] → string_bytes waiting ≡ []
    → IsSheet (record { align = align; done = done; waiting = waiting; walk = first_walk }) []
new_sheet align done waiting e f = record {
  front = [];
  split = sym f;
  done = λ later. ap (λ (b : List ℕ). b ++ comments_as align later) (sym e);
  none = λ g. f;
  walked = λ g. no_line (string_bytes waiting) f;
}

-- more lines, which are not aligned
pub unaligned_more : (sheet : Sheet) (done : String Global) (bytes lines : List ℕ) → sheet.align ≡ false
    → string_bytes done ≡ string_bytes sheet.done ++ lines → IsSheet sheet bytes → IsSheet (record sheet { done = done }) (bytes ++ lines)
unaligned_more sheet done bytes lines off is h = record {
  front = bytes ++ lines;
  split = sym (append-nil (bytes ++ lines)) ∙ ap (λ (l : List ℕ). (bytes ++ lines) ++ l) (sym (h.none off));
  done = all;
  none = h.none;
  walked = h.walked;
}
  where
    front : bytes ≡ h.front
    front = h.split ∙ ap (λ (l : List ℕ). h.front ++ l) (h.none off) ∙ append-nil h.front

    all : (later : List ℕ) → comments_as sheet.align ((bytes ++ lines) ++ later) ≡ string_bytes done ++ comments_as sheet.align later
    all later =
        ap (comments_as sheet.align) (append_assoc bytes lines later ∙ ap (λ (l : List ℕ). l ++ (lines ++ later)) front)
        ∙ h.done (lines ++ later)
        ∙ ap (λ (l : List ℕ). string_bytes sheet.done ++ l) (unaligned sheet.align (lines ++ later) off)
        ∙ sym (append_assoc (string_bytes sheet.done) lines later)
        ∙ ap (λ (l : List ℕ). l ++ later) (sym is)
        ∙ ap (λ (l : List ℕ). string_bytes done ++ l) (sym (unaligned sheet.align later off))

-- more lines that wait
pub waiting_more : (sheet : Sheet) (waiting : String Global) (walk : LinesRead) (bytes lines : List ℕ) → sheet.align ≡ true
    → string_bytes waiting ≡ string_bytes sheet.waiting ++ lines → walk ≡ walked sheet.walk (toml_spaced_lexemes lines)
    → IsSheet sheet bytes → IsSheet (record sheet { waiting = waiting; walk = walk }) (bytes ++ lines)
waiting_more sheet waiting walk bytes lines on is same h = record {
  front = h.front;
  split = ap (λ (l : List ℕ). l ++ lines) h.split ∙ append_assoc h.front (string_bytes sheet.waiting) lines
      ∙ ap (λ (l : List ℕ). h.front ++ l) (sym is);
  done = h.done;
  none = λ off. let clash : true ≡ false = sym on ∙ off in absurd (cc);
  walked = λ whole.
      let more = walked_more sheet.walk (string_bytes sheet.waiting) lines h.walked (sym (ap (λ (w : LinesRead). w.whole) same) ∙ whole) in
      subst (λ (w : LinesRead). AreWalked w (string_bytes waiting)) (sym same)
      (subst (λ (b : List ℕ). AreWalked (walked sheet.walk (toml_spaced_lexemes lines)) b) (sym is) more);
}

-- the lines that wait are as they are to be
pub settled_more : (sheet : Sheet) (done waiting : String Global) (bytes : List ℕ) → sheet.align ≡ true → sheet.walk.whole ≡ true
    → sheet.walk.free ≡ true
    → string_bytes done ≡ string_bytes sheet.done ++ settled_lines sheet.walk.plain (string_bytes sheet.waiting)
    → string_bytes waiting ≡ [] → IsSheet sheet bytes
    → IsSheet (record sheet { done = done; waiting = waiting; walk = first_walk }) bytes
settled_more sheet done waiting bytes on whole free is empty h = record {
  front = bytes;
  split = sym (append-nil bytes) ∙ ap (λ (l : List ℕ). bytes ++ l) (sym empty);
  done = all;
  none = λ off. empty;
  walked = λ e. no_line (string_bytes waiting) empty;
}
  where
    lines : AreWalked sheet.walk (string_bytes sheet.waiting)
    lines = h.walked whole

    all : (later : List ℕ) → comments_as sheet.align (bytes ++ later) ≡ string_bytes done ++ comments_as sheet.align later
    all later =
        let w = string_bytes sheet.waiting in
        ap (comments_as sheet.align) (ap (λ (l : List ℕ). l ++ later) h.split ∙ append_assoc h.front w later)
        ∙ h.done (w ++ later)
        ∙ ap (λ (l : List ℕ). string_bytes sheet.done ++ l)
        (aligned sheet.align (w ++ later) on ∙ aligned_before sheet.walk w lines free later)
        ∙ sym (append_assoc (string_bytes sheet.done) (with_aligned_comments w) (with_aligned_comments later))
        ∙ ap (λ (l : List ℕ). (string_bytes sheet.done ++ l) ++ with_aligned_comments later)
        (sym (settled_is sheet.walk w lines free))
        ∙ ap (λ (l : List ℕ). l ++ with_aligned_comments later) (sym is)
        ∙ ap (λ (l : List ℕ). string_bytes done ++ l) (sym (aligned sheet.align later on))

-- all lines
pub all_lines : (sheet : Sheet) (made bytes : List ℕ)
    → made ≡ string_bytes sheet.done ++ comments_as sheet.align (string_bytes sheet.waiting) → IsSheet sheet bytes
    → made ≡ comments_as sheet.align bytes
all_lines sheet made bytes is h =
    is ∙ sym (h.done (string_bytes sheet.waiting)) ∙ ap (comments_as sheet.align) (sym h.split)
