use Rattle.std.proofs.Common.{false, subst}
use Rattle.aa_assert.specs.declared.passage.Lead.{Lead}
use Rattle.aa_assert.specs.Passages.{IsLead}
use Rattle.aa_assert.proofs.Passing.{none_at_all}
use Rattle.aa_assert.proofs.passage.passage_of.Goals as goal

pub returns-in-Nowhere : goal.returns-in-Nowhere
returns-in-Nowhere c =
    none_at_all c.args.policies.now c.args.from c.args.labels.now
    (subst (λ (lead : Lead). IsLead false c.args.policies.now c.limit_of-limit.result c.args.from c.args.labels.now lead) c.in-Nowhere.is c.in_ok-way.ensures)
