use Rattle.std.proofs.Common.{◌≡◌, length}
use Rattle.aa_reachability.specs.Reach.{led_by}
use Rattle.aa_assert.specs.Passages.{going}
use Rattle.aa_assert.proofs.way.last.Given as goal

abbrev pub invariant-loop-rest : goal.invariant-loop-rest
invariant-loop-rest l = led_by (going l.policies) l.label l.rest ≡ led_by (going l.policies) l.fn.from l.requests

abbrev pub decreases-loop-rest : goal.decreases-loop-rest
decreases-loop-rest l = length l.rest
