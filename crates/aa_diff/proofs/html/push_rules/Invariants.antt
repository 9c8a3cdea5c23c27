use Rattle.std.proofs.Common.{◌≡◌, ◌++◌, take}
use Rattle.std.specs.Prelude.{flat_map}
use Rattle.aa_diff.specs.Html.{html_rule}
use Rattle.aa_diff.proofs.html.push_rules.Given as goal

abbrev pub invariant-loop-rule : goal.invariant-loop-rule
invariant-loop-rule l = l.out.items ≡ l.initial.out.items ++ flat_map (html_rule l.mark) (take l.rule-index l.rules)
