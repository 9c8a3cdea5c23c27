use Rattle.std.proofs.Common.{◌≡◌, ◌++◌, take, flat_map}
use Rattle.aa_text.specs.Faults.{further_line}
use Rattle.aa_text.proofs.fault.push_all_further.Given as goal

abbrev pub invariant-loop-line : goal.invariant-loop-line
invariant-loop-line l = l.out.items ≡ l.initial.out.items ++ flat_map further_line (take l.line-index l.further)
