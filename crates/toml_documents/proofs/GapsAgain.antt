-- Gaps before comments are read again as they are.
use Rattle.std.proofs.Common.{◌≡◌, refl, Bool, true, false, cond}
use Rattle.toml_documents.specs.Gaps.{gap_before_first_comment, line_break}
use Rattle.toml_documents.proofs.GapFlags.{CommentGapsAreReadAgain, breaks_before, leaves_blank}
use Rattle.toml_documents.specs.declared.gaps.Gap.{Gap}
use Rattle.toml_documents.specs.declared.gaps.Gap.TheVariants.{Beside, Break}
use Rattle.toml_documents.specs.declared.kind.Kind.{Kind}
use Rattle.toml_documents.specs.declared.kind.Kind.TheVariants.{Statement, Header, Table, Array, Numbers}
use Rattle.toml_documents.specs.declared.kind.Last.{Last}
use Rattle.toml_documents.specs.declared.kind.Last.TheVariants.{Start, Close, Equals, Word, Dot, String, Comma, Comment}

break_again : (blank : Bool) → line_break (leaves_blank (line_break blank)) ≡ line_break blank
break_again true = refl
break_again false = refl

start_again : (broken : Bool) → cond (breaks_before (cond broken Break Beside)) Break Beside ≡ cond broken Break Beside
start_again true = refl
start_again false = refl

-- the gap before a comment after a value or a comma
abbrev later : Bool → Bool → Gap
later broken blank = cond broken (line_break blank) Beside

later_again : (broken blank : Bool) → later (breaks_before (later broken blank)) (leaves_blank (later broken blank)) ≡ later broken blank
later_again true true = refl
later_again true false = refl
later_again false blank = refl

first_again : (kind : Kind) (l : Last) (broken blank : Bool)
    → gap_before_first_comment kind l (breaks_before (gap_before_first_comment kind l broken blank))
    (leaves_blank (gap_before_first_comment kind l broken blank))
    ≡ gap_before_first_comment kind l broken blank
first_again Statement Start broken blank = refl
first_again Statement Close broken blank = refl
first_again Statement Equals broken blank = refl
first_again Statement Word broken blank = refl
first_again Statement Dot broken blank = refl
first_again Statement String broken blank = refl
first_again Statement Comma broken blank = refl
first_again Statement Comment broken blank = break_again blank
first_again Header Start broken blank = start_again broken
first_again Header Close broken blank = later_again broken blank
first_again Header Equals broken blank = later_again broken blank
first_again Header Word broken blank = later_again broken blank
first_again Header Dot broken blank = later_again broken blank
first_again Header String broken blank = later_again broken blank
first_again Header Comma broken blank = later_again broken blank
first_again Header Comment broken blank = break_again blank
first_again Table Start broken blank = start_again broken
first_again Table Close broken blank = later_again broken blank
first_again Table Equals broken blank = later_again broken blank
first_again Table Word broken blank = later_again broken blank
first_again Table Dot broken blank = later_again broken blank
first_again Table String broken blank = later_again broken blank
first_again Table Comma broken blank = later_again broken blank
first_again Table Comment broken blank = break_again blank
first_again Array Start broken blank = start_again broken
first_again Array Close broken blank = later_again broken blank
first_again Array Equals broken blank = later_again broken blank
first_again Array Word broken blank = later_again broken blank
first_again Array Dot broken blank = later_again broken blank
first_again Array String broken blank = later_again broken blank
first_again Array Comma broken blank = later_again broken blank
first_again Array Comment broken blank = break_again blank
first_again Numbers Start broken blank = start_again broken
first_again Numbers Close broken blank = later_again broken blank
first_again Numbers Equals broken blank = later_again broken blank
first_again Numbers Word broken blank = later_again broken blank
first_again Numbers Dot broken blank = later_again broken blank
first_again Numbers String broken blank = later_again broken blank
first_again Numbers Comma broken blank = later_again broken blank
first_again Numbers Comment broken blank = break_again blank

pub comment_again : CommentGapsAreReadAgain
comment_again kind l true broken blank = break_again blank
comment_again kind l false broken blank = first_again kind l broken blank
