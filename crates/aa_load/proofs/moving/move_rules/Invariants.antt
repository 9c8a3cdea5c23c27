use Rattle.std.proofs.Common.{◌≡◌, ◌++◌, map, take, drop}
use Rattle.aa_load.specs.Joined.{moved_rule}
use Rattle.aa_load.proofs.moving.move_rules.Given as goal

abbrev pub invariant-loop-rule : goal.invariant-loop-rule
invariant-loop-rule l = l.rules ≡ map (moved_rule l.before) (take l.rule-index l.fn.rules) ++ drop l.rule-index l.fn.rules
