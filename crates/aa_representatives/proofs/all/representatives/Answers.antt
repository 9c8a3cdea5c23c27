use Rattle.std.proofs.Common.{[]}
use Rattle.aa_model.specs.declared.label.Label.TheVariants.{Unconfined}
use Rattle.aa_representatives.proofs.BothStanding.{one_of_both}
use Rattle.aa_representatives.proofs.all.representatives.Goals as goal
use Rattle.aa_regions.proofs.Paths.{ok_then}

pub returns-clause-representatives : goal.returns-clause-representatives
returns-clause-representatives c =
    ok_then c.representatives_of_both.result c.representatives_of_both.ensures.representatives (λ rs both. one_of_both c.args.policies.now c.args.label [] (Unconfined 0) rs.items both)
