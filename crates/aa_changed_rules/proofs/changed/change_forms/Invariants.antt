use Rattle.std.proofs.Common.{◌≡◌, map, take}
use Rattle.aa_changed_rules.specs.Forms.{lists, change_form}
use Rattle.aa_changed_rules.proofs.changed.change_forms.Given as goal

abbrev pub invariant-loop-rule : goal.invariant-loop-rule
invariant-loop-rule l = lists l.forms.items ≡ map change_form (take l.rule-index l.rules)
