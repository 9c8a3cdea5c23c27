use Rattle.std.proofs.Common.{length, ◌+◌, ◌-◌, ◌≤◌}
use Rattle.aa_claims.specs.Lines.{AreClaimsUpTo}
use Rattle.aa_claims.proofs.lines.read_claims.Given as goal

abbrev pub invariant-lines : goal.invariant-lines
invariant-lines l = record {
  up_to : AreClaimsUpTo l.text l.claims.items l.number l.start;
  few : length l.claims.items ≤ 65536;
  near : l.number ≤ l.start + 1;
  within : l.start ≤ length l.text + 1;
}

abbrev pub decreases-lines : goal.decreases-lines
decreases-lines l = length l.text + 1 - l.start
