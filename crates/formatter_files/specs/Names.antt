-- Names of files that are written beside others.
use Rattle.std.specs.Prelude.{ℕ, List, ◌++◌, codes, decimal}
use Rattle.std.specs.Path.{path_with_file_name}

-- the name by a number
abbrev pub name_beside : ℕ → List ℕ
name_beside number = codes ".formatting-" ++ decimal number

-- a path in the same folder, with that name
abbrev pub path_beside : List ℕ → ℕ → List ℕ
path_beside path number = path_with_file_name path (name_beside number)
