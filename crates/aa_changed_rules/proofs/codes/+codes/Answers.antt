use Rattle.std.proofs.lemmas.Grind.{common_steps}
use Rattle.std.proofs.Common.{arith}
use Rattle.aa_pattern.proofs.Rows.{weight-Choice}
use Rattle.aa_pattern.proofs.FlagSteps.{weight_at, weight_of_at}
use Rattle.aa_changed_rules.proofs.Rows.{choice_code}
use Rattle.aa_changed_rules.proofs.codes.+codes.Goals as goal

pub push_item-push_branches-requires : goal.push_item-push_branches-requires
push_item-push_branches-requires t c = grind (arith, common_steps, weight-Choice)

pub push_branches-push_items-requires : goal.push_branches-push_items-requires
push_branches-push_items-requires t c = grind (arith, common_steps, weight_of_at)

pub push_items-push_item-requires : goal.push_items-push_item-requires
push_items-push_item-requires t c = grind (arith, common_steps, weight_at)

pub push_item-returns-in_ok-push_branches-in-Choice : goal.push_item-returns-in_ok-push_branches-in-Choice
push_item-returns-in_ok-push_branches-in-Choice t c = grind (arith, common_steps, choice_code, c.in-Choice.is, c.as_slice.ensures.value)
