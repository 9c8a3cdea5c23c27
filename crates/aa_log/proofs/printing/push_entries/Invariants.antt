use Rattle.std.proofs.Common.{◌≡◌, ◌++◌, map, take, flat_map}
use Rattle.aa_log.specs.Printed.{entry_line}
use Rattle.aa_log.proofs.printing.push_entries.Given as goal

abbrev pub invariant-loop-entry : goal.invariant-loop-entry
invariant-loop-entry l = l.out.items ≡ l.initial.out.items ++ flat_map (entry_line (map (λ log. log.now) l.logs)) (map (λ e. e.now) (take l.entry-index l.entries))
