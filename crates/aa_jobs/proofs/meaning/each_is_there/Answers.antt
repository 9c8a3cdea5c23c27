use Rattle.std.proofs.lemmas.List.Folds.{list_all-map}
use Rattle.aa_jobs.proofs.meaning.each_is_there.Goals as goal

pub returns : goal.returns
returns c = simp list_all-map c.are_there.ensures
