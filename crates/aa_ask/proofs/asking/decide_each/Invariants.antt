use Rattle.std.proofs.Common.{◌≡◌, map, take}
use Rattle.aa_ask.specs.Told.{told, verdict_on}
use Rattle.aa_ask.proofs.asking.decide_each.Given as goal

abbrev pub invariant-loop-request : goal.invariant-loop-request
invariant-loop-request l = map told l.verdicts.items ≡ map (verdict_on l.decided l.opening) (take l.request-index l.requests)
