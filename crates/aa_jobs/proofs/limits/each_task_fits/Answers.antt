use Rattle.std.proofs.lemmas.List.{length-map}
use Rattle.std.proofs.lemmas.List.Folds.{list_all-map}
use Rattle.aa_jobs.proofs.limits.each_task_fits.Goals as goal

pub returns : goal.returns
returns c = simp (list_all-map, length-map) c.all_tasks_fit.ensures
