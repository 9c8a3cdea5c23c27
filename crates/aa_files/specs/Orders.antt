-- The order in which the files of a folder are read.
-- Source: own.
use Rattle.std.specs.Prelude.{ℕ, List, Vec}
use Rattle.std.specs.Ordering.{nat_cmp}
use Rattle.std.specs.Cmp.Lexicographic.{slice_cmp}
use Rattle.std.specs.List.Sorted.{IsSorted}
use Rattle.std.specs.declared.alloc.Global.{Global}

-- no name stands behind one that is greater, compared byte by byte
abbrev pub AreInByteOrder : List (Vec ℕ Global) → Type 0
AreInByteOrder names = IsSorted (λ a b. slice_cmp nat_cmp a.items b.items) names
