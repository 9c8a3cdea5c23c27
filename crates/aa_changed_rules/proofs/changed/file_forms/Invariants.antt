use Rattle.std.proofs.Common.{◌≡◌, map, take}
use Rattle.aa_changed_rules.specs.Forms.{lists, file_form}
use Rattle.aa_changed_rules.proofs.changed.file_forms.Given as goal

abbrev pub invariant-loop-rule : goal.invariant-loop-rule
invariant-loop-rule l = lists l.forms.items ≡ map file_form (take l.rule-index l.rules)
