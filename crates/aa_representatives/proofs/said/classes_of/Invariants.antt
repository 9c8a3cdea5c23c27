use Rattle.aa_representatives.specs.Both.{AreSaidClasses}
use Rattle.aa_representatives.proofs.said.classes_of.Given as goal

abbrev pub invariant-loop-region : goal.invariant-loop-region
invariant-loop-region l = AreSaidClasses l.one l.from l.other l.to l.regions l.region-index l.classes.items
