use Rattle.std.proofs.Common.{◌≡◌, take, false}
use Rattle.std.specs.List.{list_any}
use Rattle.aa_differences.specs.Openings.{is_open_rule}
use Rattle.aa_differences.proofs.openings.one_rule_is_open.Given as goal

abbrev pub invariant-loop-rule : goal.invariant-loop-rule
invariant-loop-rule l = list_any (is_open_rule l.compiled.profiles l.unread l.profile) (take l.rule-index l.rules) ≡ false
