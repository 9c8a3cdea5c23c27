use Rattle.std.proofs.Common.{◌≡◌, ◌++◌, take, flat_map}
use Rattle.aa_text.specs.Faults.{fault_text}
use Rattle.aa_check.proofs.checked.push_further.Given as goal

abbrev pub invariant-loop-fault : goal.invariant-loop-fault
invariant-loop-fault l = l.out.items ≡ l.initial.out.items ++ flat_map fault_text (take l.fault-index l.faults)
