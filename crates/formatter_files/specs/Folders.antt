-- What stands in a folder.
use Rattle.std.specs.Prelude.{◌==◌, ◌-◌, ◌&&◌, ◌||◌, ℕ, Bool, not, if◌then◌else◌, List, [], ◌∷◌, ◌++◌, codes, filter, length, map}
use Rattle.std.specs.Prelude.{slice_index}
use Rattle.std.specs.List.{slice_split}
use Rattle.std.specs.List.Sorted.{IsPermutation, IsSorted}
use Rattle.std.specs.Borrow.{Bor}
use Rattle.std.specs.Cmp.Lexicographic.{slice_cmp}
use Rattle.std.specs.Ordering.{nat_cmp}
use Rattle.std.specs.Str.{bytes_eq}

-- what is not looked at: the folder itself, the one above it, what `git` and `npm` keep, and what has no name
abbrev pub is_passed_over : List ℕ → Bool
is_passed_over name =
    length name == 0 || bytes_eq name (codes ".") || bytes_eq name (codes "..") || bytes_eq name (codes ".git")
    || bytes_eq name (codes "node_modules")

-- the other names of a listing, where a NUL ends each
abbrev pub visited : List ℕ → List (List ℕ)
visited listing = filter (λ name. not (is_passed_over name)) (slice_split (λ byte. byte == 0) listing)

-- These are those names, in the order of their bytes, whichever order the listing has.
pub record IsVisitedInOrder (listing : List ℕ) (names : List (Bor (List ℕ))) : Type 0 where
  pub same : IsPermutation (visited listing) (map (λ name. name.now) names)
  pub ordered : IsSorted (λ a b. slice_cmp nat_cmp a.now b.now) names

-- no slash at the end of a path
abbrev pub lacks_slash : List ℕ → Bool
lacks_slash path = not (length path == 0) && not (slice_index path (length path - 1) == 0x2F)

-- the path of what has this name in a folder
abbrev pub path_in : List ℕ → List ℕ → List ℕ
path_in folder name = folder ++ (if lacks_slash folder then 0x2F ∷ name else name)
