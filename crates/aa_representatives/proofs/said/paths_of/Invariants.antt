use Rattle.std.proofs.Common.{◌≡◌, map, take}
use Rattle.aa_representatives.specs.declared.said.SaidClass.{SaidClass}
use Rattle.aa_representatives.proofs.said.paths_of.Given as goal

abbrev pub invariant-loop-class : goal.invariant-loop-class
invariant-loop-class l = l.paths.items ≡ map (λ (c : SaidClass). c.path) (take l.class-index l.classes)
