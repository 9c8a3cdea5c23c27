use Rattle.std.proofs.Common.{◌≡◌, ◌∷◌, [], map, refl, zero, suc, arith}
use Rattle.std.specs.List.{All}
use Rattle.std.proofs.lemmas.List.Sorted.{All-permutation}
use Rattle.aa_lane.specs.Ends.{known}
use Rattle.aa_lane_tests.proofs.pool.closing.settled_by.Goals as goal

one : {X : Type 0} (x : X) → All (λ y. y ≡ x) (x ∷ [])
one x zero d h = refl
one x (suc k) d h = absurd (omega arith)

pub returns-clause-server : goal.returns-clause-server
returns-clause-server g c =
    let first : All (λ l. l ≡ known c.only.result) (map known c.deref.result.now) = rw (c.deref.ensures.value, c.only.ensures) (one (known c.only.result)) in
    let all : All (λ l. l ≡ known c.only.result) (map (λ s. s.lane) c.served-served.result.items) = All-permutation (λ l. l ≡ known c.only.result) _ _ c.served-served.ensures first in
    (rw c.only-2.ensures at all) 0 c.only-2.result.lane (omega arith)
