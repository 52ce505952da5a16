-- A summary but for its numbers, as one number.
use Rattle.std.specs.Prelude.{ℕ, ◌+◌, ◌/◌, ◌%◌, ◌==◌, if◌then◌else◌}
use Rattle.prettyless_summary.specs.declared.summary.Summary.{Summary}
use Rattle.prettyless_summary.specs.declared.summary.Weak.{Weak}
use Rattle.prettyless_summary.specs.declared.summary.Weak.TheVariants as weak
use Rattle.prettyless_summary.specs.declared.summary.End.{End}
use Rattle.prettyless_summary.specs.declared.summary.End.TheVariants.{Open, No, PaddingFits, Yes}

-- of an end
abbrev pub end_marks : End → ℕ
end_marks Open = 0
end_marks No = 1
end_marks PaddingFits = 2
end_marks Yes = 3

-- of a weak line
abbrev pub weak_marks : Weak → ℕ
weak_marks weak.Never = 0
weak_marks weak.Flat = 16
weak_marks weak.Break = 32

-- of a summary
abbrev pub marks_of : Summary → ℕ
marks_of s = end_marks s.end + (if s.has_ink then 4 else 0) + (if s.has_suffix then 8 else 0) + weak_marks s.weak

-- the end that marks have
abbrev pub end_of : ℕ → End
end_of n = if n % 4 == 0 then Open else (if n % 4 == 1 then No else (if n % 4 == 2 then PaddingFits else Yes))

-- the weak line that marks have
abbrev pub weak_of : ℕ → Weak
weak_of n = if n / 16 == 0 then weak.Never else (if n / 16 == 1 then weak.Flat else weak.Break)
