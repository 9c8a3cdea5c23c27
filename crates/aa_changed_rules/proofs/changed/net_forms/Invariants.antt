use Rattle.std.proofs.Common.{◌≡◌, map, take}
use Rattle.aa_changed_rules.specs.Forms.{lists, net_form}
use Rattle.aa_changed_rules.proofs.changed.net_forms.Given as goal

abbrev pub invariant-loop-rule : goal.invariant-loop-rule
invariant-loop-rule l = lists l.forms.items ≡ map net_form (take l.rule-index l.rules)
