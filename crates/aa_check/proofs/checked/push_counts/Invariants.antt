use Rattle.std.proofs.Common.{◌≡◌, ◌++◌, take, map, flat_map}
use Rattle.aa_check.specs.Counts.{told}
use Rattle.aa_check.specs.Printed.{told_text}
use Rattle.aa_check.proofs.checked.push_counts.Given as goal

abbrev pub invariant-loop-count : goal.invariant-loop-count
invariant-loop-count l = l.out.items ≡ l.initial.out.items ++ flat_map told_text (map told (take l.count-index l.counts))
