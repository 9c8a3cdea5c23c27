use Rattle.std.proofs.Common.{arith}
use Rattle.std.proofs.lemmas.Grind.{common_steps}
use Rattle.aa_pattern.proofs.Sameness.{same_items_match}
use Rattle.aa_glob.proofs.Spellings.{tokens_decide_items}
use Rattle.aa_glob.proofs.token_laws.tokens_decide_items.Goals as goal

pub returns-clause-items : goal.returns-clause-items
returns-clause-items c = grind (arith, common_steps, tokens_decide_items)

pub returns-clause-matching : goal.returns-clause-matching
returns-clause-matching c = grind (arith, common_steps, same_items_match)
