use Rattle.std.proofs.lemmas.List.Folds.{list_all-map}
use Rattle.aa_jobs.proofs.limits.each_policy_fits.Goals as goal

pub returns : goal.returns
returns c = simp list_all-map c.all_policies_fit.ensures
