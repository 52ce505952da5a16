-- Gaps that a layout has, where they are read again.
use Rattle.std.specs.Prelude.{◌≡◌, Bool, true, false}
use Rattle.toml_documents.specs.Gaps.{gap_before_comment}
use Rattle.toml_documents.specs.declared.gaps.Gap.{Gap}
use Rattle.toml_documents.specs.declared.gaps.Gap.TheVariants.{BlankLine, Break, BlankBreak}
use Rattle.toml_documents.specs.declared.kind.Kind.{Kind}
use Rattle.toml_documents.specs.declared.kind.Last.{Last}

-- a line ends in the gap before a comment
abbrev pub breaks_before : Gap → Bool
breaks_before Break = true
breaks_before BlankBreak = true
breaks_before g = false

-- a blank line is in the gap, where lines are broken
abbrev pub leaves_blank : Gap → Bool
leaves_blank BlankLine = true
leaves_blank BlankBreak = true
leaves_blank g = false

-- the gap before a comment, which other comments of its entry stand before or not, is the gap again
abbrev pub CommentGapsAreReadAgain : Type 0
CommentGapsAreReadAgain =
    (kind : Kind) (l : Last) (after broken blank : Bool)
    → gap_before_comment kind l after (breaks_before (gap_before_comment kind l after broken blank))
    (leaves_blank (gap_before_comment kind l after broken blank))
    ≡ gap_before_comment kind l after broken blank
