use Rattle.std.proofs.Common.{◌≡◌, map, length}
use Rattle.std.specs.List.{find}
use Rattle.aa_ask.specs.Named.{lacked}
use Rattle.aa_ask.specs.Json.{lacks_there}
use Rattle.aa_ask.proofs.json.lack_at.Given as goal

abbrev pub invariant-loop-rest : goal.invariant-loop-rest
invariant-loop-rest l = find (lacks_there l.is_target) (map lacked l.rest) ≡ find (lacks_there l.is_target) (map lacked l.lacking)

abbrev pub decreases-loop-rest : goal.decreases-loop-rest
decreases-loop-rest l = length l.rest
