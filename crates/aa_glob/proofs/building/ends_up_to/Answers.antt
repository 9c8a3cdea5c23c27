use Rattle.std.proofs.Common.{arith, leb, of_calls, rules}
use Rattle.std.proofs.lemmas.Bool.{leb-true, leb-false}
use Rattle.std.proofs.lemmas.Fn.{always_returns_same}
use Rattle.std.proofs.lemmas.List.Sorted.{IsPartitionedBy-leb}
use Rattle.aa_glob.proofs.building.ends_up_to.Goals as goal

pub returns-clause-below : goal.returns-clause-below
returns-clause-below c =
    let point = c.partition_point.ensures.partitioned (λ y. leb y c.args.number) (always_returns_same _ _ _ (λ a r f k. search (rules, of_calls))) (IsPartitionedBy-leb (λ y. y) c.args.ends.now c.args.number c.requires) in
    λ k h. leb-true _ _ (point.0 k 0 (omega arith) h)

pub returns-clause-above : goal.returns-clause-above
returns-clause-above c =
    let point = c.partition_point.ensures.partitioned (λ y. leb y c.args.number) (always_returns_same _ _ _ (λ a r f k. search (rules, of_calls))) (IsPartitionedBy-leb (λ y. y) c.args.ends.now c.args.number c.requires) in
    λ h. leb-false _ _ (point.1 _ 0 (omega arith) h)
