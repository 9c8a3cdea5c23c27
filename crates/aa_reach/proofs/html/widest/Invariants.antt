use Rattle.std.proofs.Common.{◌≡◌, length}
use Rattle.aa_reach.specs.Html.{widest}
use Rattle.aa_reach.proofs.html.widest.Given as goal

abbrev pub invariant-loop-rest : goal.invariant-loop-rest
invariant-loop-rest l = widest l.most l.rest ≡ widest 0 l.vertices

abbrev pub decreases-loop-rest : goal.decreases-loop-rest
decreases-loop-rest l = length l.rest
