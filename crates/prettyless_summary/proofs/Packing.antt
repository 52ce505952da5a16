-- What marks have is what they were made of.
use Rattle.std.proofs.Common.{◌≡◌, ℕ, ◌+◌, ◌/◌, ◌%◌, ◌<◌, Bool, true, false, ◌==◌, nat_eq, refl, ap, ◌∙◌, arith, if◌then◌else◌}
use Rattle.std.proofs.lemmas.Bool.Decides.{nat_tests}
use Rattle.prettyless_summary.specs.Marks.{end_marks, weak_marks, marks_of, end_of, weak_of}
use Rattle.prettyless_summary.specs.declared.summary.Summary.{Summary}
use Rattle.prettyless_summary.specs.declared.summary.Weak.{Weak}
use Rattle.prettyless_summary.specs.declared.summary.Weak.TheVariants as weak
use Rattle.prettyless_summary.specs.declared.summary.End.{End}
use Rattle.prettyless_summary.specs.declared.summary.End.TheVariants.{Open, No, PaddingFits, Yes}

-- the marks of ink, and of a line suffix
abbrev pub ink_marks : Bool → ℕ
ink_marks a = if a then 4 else 0

abbrev pub suffix_marks : Bool → ℕ
suffix_marks b = if b then 8 else 0

end_below : (x : End) → end_marks x < 4
end_below Open = omega arith
end_below No = omega arith
end_below PaddingFits = omega arith
end_below Yes = omega arith

ink_below : (x : End) (a : Bool) → end_marks x + ink_marks a < 8
ink_below Open true = omega arith
ink_below Open false = omega arith
ink_below No true = omega arith
ink_below No false = omega arith
ink_below PaddingFits true = omega arith
ink_below PaddingFits false = omega arith
ink_below Yes true = omega arith
ink_below Yes false = omega arith

suffix_below : (n : ℕ) (b : Bool) → n < 8 → n + suffix_marks b < 16
suffix_below n true h = omega arith
suffix_below n false h = omega arith

weak_at : (n : ℕ) (x : Weak) → n < 16 → weak_of (n + weak_marks x) ≡ x
weak_at n weak.Never h = grind (arith, nat_tests)
weak_at n weak.Flat h = grind (arith, nat_tests)
weak_at n weak.Break h = grind (arith, nat_tests)

suffix_at : (n : ℕ) (b : Bool) (x : Weak) → n < 8 → nat_eq ((n + suffix_marks b + weak_marks x) / 8 % 2) 1 ≡ b
suffix_at n true weak.Never h = grind (arith, nat_tests)
suffix_at n true weak.Flat h = grind (arith, nat_tests)
suffix_at n true weak.Break h = grind (arith, nat_tests)
suffix_at n false weak.Never h = grind (arith, nat_tests)
suffix_at n false weak.Flat h = grind (arith, nat_tests)
suffix_at n false weak.Break h = grind (arith, nat_tests)

ink_at : (n : ℕ) (a b : Bool) (x : Weak) → n < 4 → nat_eq ((n + ink_marks a + suffix_marks b + weak_marks x) / 4 % 2) 1 ≡ a
ink_at n true true weak.Never h = grind (arith, nat_tests)
ink_at n true true weak.Flat h = grind (arith, nat_tests)
ink_at n true true weak.Break h = grind (arith, nat_tests)
ink_at n true false weak.Never h = grind (arith, nat_tests)
ink_at n true false weak.Flat h = grind (arith, nat_tests)
ink_at n true false weak.Break h = grind (arith, nat_tests)
ink_at n false true weak.Never h = grind (arith, nat_tests)
ink_at n false true weak.Flat h = grind (arith, nat_tests)
ink_at n false true weak.Break h = grind (arith, nat_tests)
ink_at n false false weak.Never h = grind (arith, nat_tests)
ink_at n false false weak.Flat h = grind (arith, nat_tests)
ink_at n false false weak.Break h = grind (arith, nat_tests)

rest_at : (n : ℕ) (a b : Bool) (x : Weak) → n < 4 → (n + ink_marks a + suffix_marks b + weak_marks x) % 4 ≡ n
rest_at n true true weak.Never h = omega arith
rest_at n true true weak.Flat h = omega arith
rest_at n true true weak.Break h = omega arith
rest_at n true false weak.Never h = omega arith
rest_at n true false weak.Flat h = omega arith
rest_at n true false weak.Break h = omega arith
rest_at n false true weak.Never h = omega arith
rest_at n false true weak.Flat h = omega arith
rest_at n false true weak.Break h = omega arith
rest_at n false false weak.Never h = omega arith
rest_at n false false weak.Flat h = omega arith
rest_at n false false weak.Break h = omega arith

-- the end by the rest of marks at 4
abbrev end_rest : ℕ → End
end_rest r = if r == 0 then Open else (if r == 1 then No else (if r == 2 then PaddingFits else Yes))

end_rest_at : (x : End) → end_rest (end_marks x) ≡ x
end_rest_at Open = refl
end_rest_at No = refl
end_rest_at PaddingFits = refl
end_rest_at Yes = refl

-- a summary with these numbers and marks
abbrev pub unpacked_of : ℕ → ℕ → ℕ → ℕ → Summary
unpacked_of lead inner trail n = record {
  lead = lead;
  inner = inner;
  trail = trail;
  weak = weak_of n;
  has_ink = nat_eq (n / 4 % 2) 1;
  has_suffix = nat_eq (n / 8 % 2) 1;
  end = end_of n;
}

-- unpacking the marks of a summary with its numbers gives that summary
pub unpacked_marks : (s : Summary) (lead inner trail n : ℕ) → lead ≡ s.lead → inner ≡ s.inner → trail ≡ s.trail → n ≡ marks_of s →
    unpacked_of lead inner trail n ≡ s
unpacked_marks s lead inner trail n l i t h =
    let e = end_marks s.end in
    let k = end_marks s.end + ink_marks s.has_ink in
    let below = ink_below s.end s.has_ink in
    let line : weak_of (marks_of s) ≡ s.weak = weak_at (k + suffix_marks s.has_suffix) s.weak (suffix_below k s.has_suffix below) in
    let ink : nat_eq (marks_of s / 4 % 2) 1 ≡ s.has_ink = ink_at e s.has_ink s.has_suffix s.weak (end_below s.end) in
    let suffix : nat_eq (marks_of s / 8 % 2) 1 ≡ s.has_suffix = suffix_at k s.has_suffix s.weak below in
    let end : end_of (marks_of s) ≡ s.end =
    ap end_rest (rest_at e s.has_ink s.has_suffix s.weak (end_below s.end)) ∙ end_rest_at s.end in
    rw (l, i, t, h, line, ink, suffix, end) refl
