use Rattle.std.proofs.Common.{◌≡◌, length, take, sum_by}
use Rattle.aa_check.proofs.counting.patterns_of.Given as goal

abbrev pub invariant-loop-rule : goal.invariant-loop-rule
invariant-loop-rule l = l.count ≡ sum_by (λ r. length r.patterns) (take l.rule-index l.profile.files)
