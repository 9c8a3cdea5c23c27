use Rattle.std.proofs.Common.{◌≡◌, length}
use Rattle.aa_ask.proofs.wildcards.may_begin.Given as goal
use Rattle.aa_ask.specs.Wildcards.{may_begin}

abbrev pub invariant-loop-behind : goal.invariant-loop-behind
invariant-loop-behind l = may_begin l.behind l.rest ≡ may_begin l.front l.text

abbrev pub decreases-loop-behind : goal.decreases-loop-behind
decreases-loop-behind l = length l.behind
