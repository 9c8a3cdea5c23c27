use Rattle.aa_auto.proofs.NotedLemmas.{own_noted}
use Rattle.aa_auto.proofs.noted.note_own.Goals as goal

pub returns : goal.returns
returns c = own_noted _ _ _ _ c.note_stars.ensures
