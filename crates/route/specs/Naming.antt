-- What the program was called by.
use Rattle.std.specs.Prelude.{ℕ, ◌==◌, Bool, false, List, Option, Some, None, codes}
use Rattle.std.specs.List.{starts_with}
use Rattle.std.specs.Path.{path_file_name}

-- a last part of a path begins with `bentzolu`
abbrev pub begins_so : Option (List ℕ) → Bool
begins_so (Some part) = starts_with ◌==◌ part (codes "bentzolu")
begins_so None = false

-- the last part of this path does
abbrev pub is_bentzolu : List ℕ → Bool
is_bentzolu path = begins_so (path_file_name path)
