use Rattle.std.proofs.Common.{◌≡◌, ◌++◌, take, flat_map}
use Rattle.aa_check.specs.Gcc.{gcc_fault}
use Rattle.aa_check.proofs.gcc.push_further.Given as goal

abbrev pub invariant-loop-fault : goal.invariant-loop-fault
invariant-loop-fault l = l.out.items ≡ l.initial.out.items ++ flat_map gcc_fault (take l.fault-index l.faults)
