use Rattle.std.proofs.Common.{◌≡◌, ℕ, List, [], subst}
use Rattle.std.specs.Prelude.{codes}
use Rattle.aa_representatives.specs.Askable.{IsChange}
use Rattle.aa_representatives.specs.Representatives.{Adds, HasChange}
use Rattle.aa_representatives.proofs.Adding.{adds_both, adds_keep, adds_each}
use Rattle.aa_reachability.specs.Single.{IsChangeTo}
use Rattle.aa_reachability.proofs.Single.{adds_weaker, to_one}
use Rattle.aa_reachability.proofs.changes.changes_to_names.Goals as goal

pub returns-clause-each : goal.returns-clause-each
returns-clause-each c =
    let none = c.new-requests.result.items in
    let was = c.add_change.new.requests.items in
    let now = c.add_names.new.requests.items in
    let first = adds_weaker (IsChangeTo c.as_bytes.result.now) IsChange none was (to_one c.as_bytes.result.now) c.in_ok-add_change.ensures.adds in
    adds_each IsChange none now c.new-requests.ensures.items (adds_both IsChange none was now first c.in_ok-add_names.ensures.adds)

pub returns-clause-has : goal.returns-clause-has
returns-clause-has c =
    let was = c.add_change.new.requests.items in
    let now = c.add_names.new.requests.items in
    let free : HasChange (codes "unconfined") was = subst (λ (s : List ℕ). HasChange s was) c.as_bytes.ensures.value c.in_ok-add_change.ensures.has in
    record { free = λ wanted. adds_keep IsChange was now c.in_ok-add_names.ensures.adds _ (free wanted); names = c.in_ok-add_names.ensures.has }
