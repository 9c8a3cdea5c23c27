use Rattle.aa_files.specs.Texts.{slices}
use Rattle.aa_files.specs.WalkData.{IsWalkedTo}
use Rattle.aa_files.proofs.walk.load_text.Given as goal

abbrev pub invariant-loop-number : goal.invariant-loop-number
invariant-loop-number g l = IsWalkedTo (g.T.Tree.files l.tree) (slices l.folders) l.fn.path.items l.fn.text.items l.number l.unit
