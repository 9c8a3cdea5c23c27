use Rattle.std.proofs.Common.{◌≡◌, ℕ, ◌<◌, get_or}
use Rattle.aa_pattern.specs.declared.pattern.Pattern.{Pattern}
use Rattle.aa_representatives.specs.Askable.{IsExec}
use Rattle.aa_representatives.specs.Representatives.{Adds}
use Rattle.aa_reachability.specs.Single.{HasExecsOf}
use Rattle.aa_reachability.proofs.execs.add_execs_of_all.Given as goal

abbrev pub invariant-loop-pattern : goal.invariant-loop-pattern
invariant-loop-pattern l = record {
  adds : Adds IsExec l.fn.requests.items l.requests.items;
  has : (k : ℕ) (p : Pattern) → k < l.pattern-index → get_or l.patterns k p ≡ p → HasExecsOf l.requests.items p;
}
