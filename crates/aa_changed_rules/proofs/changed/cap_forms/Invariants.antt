use Rattle.std.proofs.Common.{◌≡◌, map, take}
use Rattle.aa_changed_rules.specs.Forms.{lists, cap_form}
use Rattle.aa_changed_rules.proofs.changed.cap_forms.Given as goal

abbrev pub invariant-loop-rule : goal.invariant-loop-rule
invariant-loop-rule l = lists l.forms.items ≡ map cap_form (take l.rule-index l.rules)
