use Rattle.std.proofs.Common.{◌≡◌, ℕ, ◌<◌, get_or}
use Rattle.aa_model.specs.declared.rule.FileRule.{FileRule}
use Rattle.aa_representatives.specs.Askable.{IsExec}
use Rattle.aa_representatives.specs.Representatives.{Adds}
use Rattle.aa_reachability.specs.Single.{HasExecsOfRule}
use Rattle.aa_reachability.proofs.execs.add_execs_of_rules.Given as goal

abbrev pub invariant-loop-rule : goal.invariant-loop-rule
invariant-loop-rule l = record {
  adds : Adds IsExec l.fn.requests.items l.requests.items;
  has : (k : ℕ) (r : FileRule) → k < l.rule-index → get_or l.rules k r ≡ r → HasExecsOfRule l.requests.items r;
}
