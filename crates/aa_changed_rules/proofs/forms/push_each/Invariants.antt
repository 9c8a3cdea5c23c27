use Rattle.std.proofs.Common.{◌≡◌, ◌++◌, flat_map}
use Rattle.aa_changed_rules.specs.Forms.{lists, counted}
use Rattle.aa_changed_rules.proofs.forms.push_each.Given as goal

abbrev pub invariant-loop-code : goal.invariant-loop-code
invariant-loop-code l = l.out.items ++ flat_map counted (lists l.code-iterator) ≡ l.initial.out.items ++ flat_map counted (lists l.codes.keys)
