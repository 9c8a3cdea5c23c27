use Rattle.std.proofs.Common.{◌≡◌, ℕ, ◌<◌, get_or}
use Rattle.aa_model.specs.declared.rule.ChangeRule.{ChangeRule}
use Rattle.aa_representatives.specs.Representatives.{Adds}
use Rattle.aa_reachability.specs.Single.{IsChangeOfOne, HasChangesOfRule}
use Rattle.aa_reachability.proofs.changes.add_changes_of.Given as goal

abbrev pub invariant-loop-rule : goal.invariant-loop-rule
invariant-loop-rule l = record {
  adds : Adds (IsChangeOfOne l.rules) l.fn.requests.items l.requests.items;
  has : (k : ℕ) (r : ChangeRule) → k < l.rule-index → get_or l.rules k r ≡ r → HasChangesOfRule l.requests.items r;
}
