-- Pieces written out while spaces may be pending: those of an indent that is written with the first content of its line.
use Rattle.std.proofs.Common.{◌≡◌, ℕ, List, [], ◌∷◌, ◌++◌, refl, ap, sym, ◌∙◌, append_assoc, Bool, true, false, if◌then◌else◌}
use Rattle.prettyless_model.specs.Options.{ending}
use Rattle.prettyless_model.specs.Spaces.{spaces}
use Rattle.prettyless_model.specs.declared.options.RenderOptions.{RenderOptions}
use Rattle.prettyless_model.specs.declared.options.IndentationPolicy.{IndentationPolicy}
use Rattle.prettyless_model.specs.declared.options.IndentationPolicy.TheVariants.{Eager, Deferred}
use Rattle.prettyless_laws.specs.Trace.{Piece, Ending, Indent, Gap, Text, Source, Alternative, has_content, settled, indent_bytes}
use Rattle.prettyless_laws.specs.Trace.{written_pieces}

-- what is written of an indent with the end of the line before it
abbrev pub at_once : IndentationPolicy → ℕ → ℕ
at_once Eager k = k
at_once Deferred k = 0

-- and what stays pending
abbrev pub later : IndentationPolicy → ℕ → ℕ
later Eager k = 0
later Deferred k = k

-- the bytes of pieces, where so many spaces are pending before them
abbrev pub owed : RenderOptions → ℕ → List Piece → List ℕ
owed o k [] = []
owed o k (Ending ∷ ps) = ending o.line_ending ++ owed o 0 ps
owed o k (Indent j used ∷ ps) = spaces (at_once o.indentation_policy j) ++ owed o (later o.indentation_policy j) ps
owed o k (Gap g ∷ ps) = spaces k ++ (spaces g ++ owed o 0 ps)
owed o k (Text s c ∷ ps) = spaces k ++ (s ++ owed o 0 ps)
owed o k (Source s ∷ ps) = s ++ owed o 0 ps
owed o k (Alternative side ∷ ps) = owed o k ps

-- how many spaces are pending after them
abbrev pub left : RenderOptions → ℕ → List Piece → ℕ
left o k [] = k
left o k (Ending ∷ ps) = left o 0 ps
left o k (Indent j used ∷ ps) = left o (later o.indentation_policy j) ps
left o k (Gap g ∷ ps) = left o 0 ps
left o k (Text s c ∷ ps) = left o 0 ps
left o k (Source s ∷ ps) = left o 0 ps
left o k (Alternative side ∷ ps) = left o k ps

one-more : (a x b c : List ℕ) → x ≡ b ++ c → a ++ x ≡ (a ++ b) ++ c
one-more a x b c e = ap (λ (y : List ℕ). a ++ y) e ∙ sym (append_assoc a b c)

two-more : (a z x b c : List ℕ) → x ≡ b ++ c → a ++ (z ++ x) ≡ (a ++ (z ++ b)) ++ c
two-more a z x b c e = one-more a (z ++ x) (z ++ b) c (one-more z x b c e)

pub owed-append : (o : RenderOptions) (k : ℕ) (ps qs : List Piece) → owed o k (ps ++ qs) ≡ owed o k ps ++ owed o (left o k ps) qs
owed-append o k [] qs = refl
owed-append o k (Ending ∷ ps) qs = one-more _ _ (owed o 0 ps) (owed o (left o 0 ps) qs) (owed-append o 0 ps qs)
owed-append o k (Indent j used ∷ ps) qs =
    one-more (spaces (at_once o.indentation_policy j)) (owed o (later o.indentation_policy j) (ps ++ qs))
    (owed o (later o.indentation_policy j) ps) (owed o (left o (later o.indentation_policy j) ps) qs)
    (owed-append o (later o.indentation_policy j) ps qs)
owed-append o k (Gap g ∷ ps) qs =
    two-more (spaces k) (spaces g) (owed o 0 (ps ++ qs)) (owed o 0 ps) (owed o (left o 0 ps) qs) (owed-append o 0 ps qs)
owed-append o k (Text s c ∷ ps) qs =
    two-more (spaces k) s (owed o 0 (ps ++ qs)) (owed o 0 ps) (owed o (left o 0 ps) qs) (owed-append o 0 ps qs)
owed-append o k (Source s ∷ ps) qs = one-more s (owed o 0 (ps ++ qs)) (owed o 0 ps) (owed o (left o 0 ps) qs) (owed-append o 0 ps qs)
owed-append o k (Alternative side ∷ ps) qs = owed-append o k ps qs

pub left-append : (o : RenderOptions) (k : ℕ) (ps qs : List Piece) → left o k (ps ++ qs) ≡ left o (left o k ps) qs
left-append o k [] qs = refl
left-append o k (Ending ∷ ps) qs = left-append o 0 ps qs
left-append o k (Indent j used ∷ ps) qs = left-append o (later o.indentation_policy j) ps qs
left-append o k (Gap g ∷ ps) qs = left-append o 0 ps qs
left-append o k (Text s c ∷ ps) qs = left-append o 0 ps qs
left-append o k (Source s ∷ ps) qs = left-append o 0 ps qs
left-append o k (Alternative side ∷ ps) qs = left-append o k ps qs

-- nothing is pending, used or not
pub none_owed : (b : Bool) (x : List ℕ) → (if b then spaces 0 else []) ++ x ≡ x
none_owed true x = refl
none_owed false x = refl

indent_owed : (p : IndentationPolicy) (j : ℕ) (b : Bool) (x : List ℕ)
    → spaces (at_once p j) ++ ((if b then spaces (later p j) else []) ++ x) ≡ indent_bytes p j b ++ x
indent_owed Eager j true x = refl
indent_owed Eager j false x = refl
indent_owed Deferred j true x = refl
indent_owed Deferred j false x = refl

-- what is pending is written at once where content uses it, and else not at all
pub owed_settled : (o : RenderOptions) (k : ℕ) (ps : List Piece) → owed o k ps ≡ (if has_content ps then spaces k else [])
    ++ written_pieces o (settled ps)
owed_settled o k [] = refl
owed_settled o k (Ending ∷ ps) =
    ap (λ (x : List ℕ). ending o.line_ending ++ x) (owed_settled o 0 ps ∙ none_owed (has_content ps) (written_pieces o (settled ps)))
owed_settled o k (Indent j used ∷ ps) =
    ap (λ (x : List ℕ). spaces (at_once o.indentation_policy j) ++ x) (owed_settled o (later o.indentation_policy j) ps)
    ∙ indent_owed o.indentation_policy j (has_content ps) (written_pieces o (settled ps))
owed_settled o k (Gap g ∷ ps) =
    ap (λ (x : List ℕ). spaces k ++ (spaces g ++ x)) (owed_settled o 0 ps ∙ none_owed (has_content ps) (written_pieces o (settled ps)))
owed_settled o k (Text s c ∷ ps) =
    ap (λ (x : List ℕ). spaces k ++ (s ++ x)) (owed_settled o 0 ps ∙ none_owed (has_content ps) (written_pieces o (settled ps)))
owed_settled o k (Source s ∷ ps) =
    ap (λ (x : List ℕ). s ++ x) (owed_settled o 0 ps ∙ none_owed (has_content ps) (written_pieces o (settled ps)))
owed_settled o k (Alternative side ∷ ps) = owed_settled o k ps
