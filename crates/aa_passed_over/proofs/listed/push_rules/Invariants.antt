use Rattle.std.proofs.Common.{◌≡◌, ◌++◌, take}
use Rattle.std.specs.Prelude.{map}
use Rattle.aa_passed_over.specs.Listed.{listed, listed_at}
use Rattle.aa_passed_over.proofs.listed.push_rules.Given as goal

abbrev pub invariant-loop-extent : goal.invariant-loop-extent
invariant-loop-extent l = map listed l.rules.items ≡ map listed l.initial.rules.items ++ map (listed_at l.unit) (take l.extent-index l.extents)
