use Rattle.std.proofs.Common.{◌++◌, length, map}
use Rattle.aa_passed_over.specs.Listed.{listed}
use Rattle.aa_passed_over.specs.Apart.{apart, aside, alone, GoesOn}
use Rattle.aa_passed_over.proofs.apart.push_alone.Given as goal

abbrev pub invariant-loop-rest : goal.invariant-loop-rest
invariant-loop-rest l = GoesOn l.profile l.side l.seen.entries (map apart l.found.items) (map listed l.rest)
    (map apart l.fn.found.items ++ map (aside l.profile l.side) (alone (map listed l.rules) (map listed l.others)))

abbrev pub decreases-loop-rest : goal.decreases-loop-rest
decreases-loop-rest l = length l.rest
