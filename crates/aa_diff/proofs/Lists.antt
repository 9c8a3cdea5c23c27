-- Lists of findings and of rules.
use Rattle.std.proofs.Common.{◌≡◌, ℕ, zero, suc, ◌<◌, List, [], ◌∷◌, map, length, get_or, Bool, refl, ap, arith}
use Rattle.std.specs.Prelude.{◌||◌, slice_set}
use Rattle.std.specs.List.{list_any}
use Rattle.aa_diff.specs.declared.finding.Finding.{Finding}
use Rattle.aa_diff.specs.Gathered.{changed_at}

pub any_mapped : {X Y : Type 0} (p : Y → Bool) (f : X → Y) (xs : List X) → list_any (λ (x : X). p (f x)) xs ≡ list_any p (map f xs)
any_mapped p f [] = refl
any_mapped p f (x ∷ xs) = ap (λ (b : Bool). p (f x) || b) (any_mapped p f xs)

-- an element that is changed in place
pub changed_set : (change : Finding → Finding) (fs : List Finding) (n : ℕ) (d : Finding) → n < length fs → slice_set fs n (change (get_or fs n d)) ≡ changed_at change fs n
changed_set change [] n d lt = absurd (omega (arith, lt))
changed_set change (f ∷ fs) zero d lt = refl
changed_set change (f ∷ fs) (suc n) d lt = ap (λ (gs : List Finding). f ∷ gs) (changed_set change fs n d (omega (arith, lt)))
