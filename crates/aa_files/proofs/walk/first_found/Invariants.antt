use Rattle.aa_files.specs.Texts.{texts}
use Rattle.aa_files.specs.Walks.{NothingAt}
use Rattle.aa_files.proofs.walk.first_found.Given as goal

abbrev pub invariant-loop-path : goal.invariant-loop-path
invariant-loop-path g l = NothingAt (g.T.Tree.files l.tree) (texts l.yielded)
