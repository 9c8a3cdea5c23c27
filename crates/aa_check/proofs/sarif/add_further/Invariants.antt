use Rattle.std.proofs.Common.{◌≡◌, ◌++◌, take, map}
use Rattle.aa_check.specs.Sarif.{result_text}
use Rattle.aa_check.specs.Notified.{found}
use Rattle.aa_check.proofs.sarif.add_further.Given as goal

abbrev pub invariant-loop-fault : goal.invariant-loop-fault
invariant-loop-fault l = found l.list.items ≡ found l.initial.list.items ++ map result_text (take l.fault-index l.faults)
