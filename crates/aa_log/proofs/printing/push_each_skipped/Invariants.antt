use Rattle.std.proofs.Common.{◌≡◌, ◌++◌, map, take, flat_map}
use Rattle.aa_log.specs.Printed.{skipped_at}
use Rattle.aa_log.proofs.printing.push_each_skipped.Given as goal

abbrev pub invariant-loop-one : goal.invariant-loop-one
invariant-loop-one l = l.out.items ≡ l.initial.out.items ++ flat_map (skipped_at (map (λ log. log.now) l.logs)) (take l.one-index l.each)
