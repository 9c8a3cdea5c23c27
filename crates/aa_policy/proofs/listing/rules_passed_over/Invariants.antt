use Rattle.std.proofs.Common.{◌≡◌, ◌++◌, drop}
use Rattle.aa_policy.specs.Bodies.{tree_data}
use Rattle.aa_policy.specs.Spelling.{passed_over_from}
use Rattle.aa_policy.proofs.listing.rules_passed_over.Given as goal

abbrev pub invariant-loop-number : goal.invariant-loop-number
invariant-loop-number l = l.found.items ++ passed_over_from l.number (tree_data (drop l.number l.tree)) ≡ passed_over_from 0 (tree_data l.tree)
