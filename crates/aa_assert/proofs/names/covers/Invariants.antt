use Rattle.std.proofs.Common.{◌≡◌, length}
use Rattle.aa_assert.specs.Names.{covers}
use Rattle.aa_assert.proofs.names.covers.Given as goal

abbrev pub invariant-loop-rest : goal.invariant-loop-rest
invariant-loop-rest l = covers l.rest l.behind ≡ covers l.text l.front

abbrev pub decreases-loop-rest : goal.decreases-loop-rest
decreases-loop-rest l = length l.rest
