-- One part, alternative, piece, section or file more.
use Rattle.std.proofs.Common.{◌≡◌, ◌∙◌, ◌+◌, ◌<◌, ◌≤◌, ◌||◌, sym, ap, ap₂, subst, arith, ℕ, Bool, true, false, cond}
use Rattle.std.proofs.Common.{List, [], ◌∷◌, ◌++◌, length, drop, take, get_or, replicate, inl, inr}
use Rattle.std.proofs.Math.Seq.{take-append_seam}
use Rattle.std.proofs.lemmas.Bool.{cases_lt}
use Rattle.std.proofs.lemmas.List.{at_drop_all, at_drop_more, get_or_append_left, get_or_push, get_or-replicate}
use Rattle.std.proofs.lemmas.List.{length_push, length-replicate}
use Rattle.std.proofs.lemmas.List.Folds.{list_any_more}
use Rattle.std.specs.Global.{Vec}
use Rattle.editor_config.specs.Patterns.{IsAtEach, IsUnion, Test, choice_then, fits_pieces, is_end, part_then, parts_then, piece_then}
use Rattle.editor_config.specs.Said.{said_over, said_by_files, said_by_sections}
use Rattle.editor_config.specs.declared.config.Config.{Config}
use Rattle.editor_config.specs.declared.config.Section.{Section}
use Rattle.editor_config.specs.declared.part.PatternPart.{PatternPart}
use Rattle.editor_config.specs.declared.pattern.PatternPiece.{PatternPiece}
use Rattle.editor_config.specs.declared.settings.Settings.{Settings}

-- what stands in a list that was written whole
pub written : (now rest : List Bool) (n : ℕ) → n ≡ length now → take n (now ++ rest) ≡ now
written now rest n is = ap (λ (m : ℕ). take m (now ++ rest)) is ∙ take-append_seam now rest

-- a test in place of one that says the same
each_by : (text : List ℕ) (fits : List Bool) (one other : Test) → one ≡ other → IsAtEach one text fits → IsAtEach other text fits
each_by text fits one other same = subst (λ (t : Test). IsAtEach t text fits) same

module _ (text : List ℕ) (fits : List Bool) where
  -- no part, and one part more
  pub no_parts : (parts : List PatternPart) (place : ℕ) (rest : Test) → length parts ≤ place → IsAtEach rest text fits
      → IsAtEach (parts_then (drop place parts) rest) text fits
  no_parts parts place rest all =
      let F : List PatternPart → Test = λ parts. parts_then parts rest in
      each_by text fits rest (F (drop place parts)) (sym (at_drop_all F parts place all))

  pub parts_step : (parts : List PatternPart) (place : ℕ) (rest : Test) (part : PatternPart) → place < length parts
      → part ≡ get_or parts place part → IsAtEach (part_then part (parts_then (drop (place + 1) parts) rest)) text fits
      → IsAtEach (parts_then (drop place parts) rest) text fits
  parts_step parts place rest part lt is =
      let F : List PatternPart → Test = λ parts. parts_then parts rest in
      let G : PatternPart → Test = λ p. part_then p (F (drop (place + 1) parts)) in
      each_by text fits (G part) (F (drop place parts)) (ap G is ∙ sym (at_drop_more F parts place part lt))

  -- no piece, and one piece more
  pub no_pieces : (pieces : List PatternPiece) (place : ℕ) → length pieces ≤ place → IsAtEach is_end text fits
      → IsAtEach (fits_pieces (drop place pieces)) text fits
  no_pieces pieces place all = each_by text fits is_end (fits_pieces (drop place pieces)) (sym (at_drop_all fits_pieces pieces place all))

  pub pieces_step : (pieces : List PatternPiece) (place : ℕ) (piece : PatternPiece) → place < length pieces
      → piece ≡ get_or pieces place piece → IsAtEach (piece_then piece (fits_pieces (drop (place + 1) pieces))) text fits
      → IsAtEach (fits_pieces (drop place pieces)) text fits
  pieces_step pieces place piece lt is =
      let G : PatternPiece → Test = λ p. piece_then p (fits_pieces (drop (place + 1) pieces)) in
      each_by text fits (G piece) (fits_pieces (drop place pieces)) (ap G is ∙ sym (at_drop_more fits_pieces pieces place piece lt))

-- at the end of a text, and nowhere else, nothing is left
pub ended : (text : List ℕ) (made : List Bool) → made ≡ replicate (length text) false → IsAtEach is_end text (made ++ true ∷ [])
ended text made is =
    let long : length made ≡ length text = ap length is ∙ length-replicate (length text) false in
    record {
      long = length_push made true ∙ ap (λ (n : ℕ). n + 1) long;
      at = λ k within. elim (cases_lt k (length text)) [
        | inl lt ↦
            let here : get_or made k false ≡ false
            = ap (λ (l : List Bool). get_or l k false) is ∙ get_or-replicate (length text) k false false lt in
            get_or_append_left made (true ∷ []) false k (omega (arith, long, lt))
            ∙ (here ∙ sym (at_drop_more is_end text k 0 lt))
        | inr over ↦
            let last : length made ≡ k = omega (arith, long, over, within) in
            get_or_push made true false k last ∙ sym (at_drop_all is_end text k over)
      ];
    }

-- of no alternatives none fits
pub none_of : (text : List ℕ) (made : List Bool) (rest : Test) → made ≡ replicate (length text + 1) false
    → IsAtEach (choice_then [] rest) text made
none_of text made rest is =
    record {
      long = ap length is ∙ length-replicate (length text + 1) false;
      at = λ k within.
          ap (λ (l : List Bool). get_or l k false) is ∙ get_or-replicate (length text + 1) k false false (omega (arith, within));
    }

-- one alternative more
pub choice_step : (text : List ℕ) (alternatives : List (Vec PatternPart)) (place : ℕ) (rest : Test) (parts : Vec PatternPart)
    (before after joined : List Bool) → place < length alternatives → parts ≡ get_or alternatives place parts
    → IsUnion before after joined → IsAtEach (choice_then (take place alternatives) rest) text before
    → IsAtEach (parts_then parts.items rest) text after
    → IsAtEach (choice_then (take (place + 1) alternatives) rest) text joined
choice_step text alternatives place rest parts before after joined lt is both some own =
    record {
      long = both.long ∙ some.long;
      at = λ k within.
          let P : Vec PatternPart → Bool = λ parts. parts_then parts.items rest (drop k text) in
          both.at k ∙ (ap₂ (λ (a : Bool) (b : Bool). a || b) (some.at k within) (own.at k within ∙ ap P is)
          ∙ sym (list_any_more P alternatives place parts lt));
    }

module _ (path : List ℕ) where
  -- no section, and one section more
  pub no_sections : (sections : List Section) (place : ℕ) → length sections ≤ place
      → said_by_sections path (drop place sections) ≡ said_by_sections path []
  no_sections sections place all = at_drop_all (said_by_sections path) sections place all

  pub sections_step : (sections : List Section) (place : ℕ) (section : Section) (fits : Bool) (said now : Settings)
      → place < length sections → section ≡ get_or sections place section
      → fits ≡ fits_pieces section.pattern.pieces.items path → said ≡ said_by_sections path (drop (place + 1) sections)
      → now ≡ cond fits (said_over said section.settings) said → now ≡ said_by_sections path (drop place sections)
  sections_step sections place section fits said now lt is fits_is said_is now_is =
      let later : Settings = said_by_sections path (drop (place + 1) sections) in
      let G : Section → Settings = λ s. cond (fits_pieces s.pattern.pieces.items path) (said_over later s.settings) later in
      now_is ∙ (ap₂ (λ (b : Bool) (m : Settings). cond b (said_over m section.settings) m) fits_is said_is
      ∙ (ap G is ∙ sym (at_drop_more (said_by_sections path) sections place section lt)))

  -- no file, and one file more
  pub no_files : (configs : List Config) (place : ℕ) → length configs ≤ place
      → said_by_files path (drop place configs) ≡ said_by_files path []
  no_files configs place all = at_drop_all (said_by_files path) configs place all

  pub files_step : (configs : List Config) (place : ℕ) (config : Config) (said : Settings)
      → place < length configs → config ≡ get_or configs place config
      → said ≡ said_by_sections path config.sections.items
      → said_over said (said_by_files path (drop (place + 1) configs)) ≡ said_by_files path (drop place configs)
  files_step configs place config said lt is said_is =
      let above : Settings = said_by_files path (drop (place + 1) configs) in
      let G : Config → Settings = λ c. said_over (said_by_sections path c.sections.items) above in
      ap (λ (s : Settings). said_over s above) said_is ∙ (ap G is ∙ sym (at_drop_more (said_by_files path) configs place config lt))
