use Rattle.std.proofs.Common.{◌≡◌, [], take, drop}
use Rattle.aa_diff.specs.Gathered.{gathered}
use Rattle.aa_diff.specs.Rules.{AreOwn}
use Rattle.aa_diff.proofs.gathering.gather.Given as goal

abbrev pub invariant-loop-number : goal.invariant-loop-number
invariant-loop-number l = record {
  goes : gathered l.old l.new (take l.number l.differences) (drop l.number l.differences) l.findings.items ≡ gathered l.old l.new [] l.differences [];
  own : AreOwn l.old.policies.now l.new.policies.now l.own.from l.own.to l.own;
}
