-- Lists of texts, as the code has them.
use Rattle.std.specs.Prelude.{ℕ, List, map, Vec}
use Rattle.std.specs.Borrow.{Bor}
use Rattle.std.specs.declared.alloc.Global.{Global}

-- what the lists hold
abbrev pub texts : List (Vec ℕ Global) → List (List ℕ)
texts vs = map (λ v. v.items) vs

-- what the slices hold
abbrev pub slices : List (Bor (List ℕ)) → List (List ℕ)
slices rs = map (λ r. r.now) rs
