use Rattle.std.proofs.Common.{◌≡◌, ◌++◌, map, take, flat_map}
use Rattle.aa_log.specs.Printed.{skipped_line}
use Rattle.aa_log.proofs.printing.push_reasons.Given as goal

abbrev pub invariant-loop-skipped : goal.invariant-loop-skipped
invariant-loop-skipped l = l.out.items ≡ l.initial.out.items ++ flat_map (skipped_line (map (λ log. log.now) l.logs)) (map (λ s. s.now) (take l.skipped-index l.reasons))
