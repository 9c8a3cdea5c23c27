use Rattle.std.proofs.Common.{◌∙◌, ◌++◌, List, ap}
use Rattle.std.specs.Prelude.{map, flat_map}
use Rattle.aa_rules.specs.declared.tree.RuleTree.{RuleTree}
use Rattle.aa_rules.specs.Reading.{rule_data}
use Rattle.aa_policy.specs.Spelling.{listed_at}
use Rattle.aa_policy.proofs.Growth.{added, profile_step, profile_end}
use Rattle.aa_policy.proofs.listing.rules_passed_over.Goals as goal

pub loop-number-preserved : goal.loop-number-preserved
loop-number-preserved c =
    let more = c.in_ok-push_all_listed.ensures ∙ ap (λ (rs : List RuleTree). c.loop-number.found.items ++ flat_map (listed_at c.loop-number.number) (map rule_data rs)) c.as_slice.ensures.value in
    added _ _ _ _ _ _ more (profile_step c.args.tree.now c.loop-number.number _ _ c.loop-number-test.true c.index-tree-number.is) c.loop-number.invariant

pub returns : goal.returns
returns c = profile_end c.args.tree.now c.loop-number.number _ _ c.loop-number-test.false c.loop-number.invariant
