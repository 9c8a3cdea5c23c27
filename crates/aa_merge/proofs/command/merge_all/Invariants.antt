use Rattle.std.proofs.Common.{take}
use Rattle.aa_files.specs.Texts.{texts}
use Rattle.aa_merge.specs.Command.{AreMerged}
use Rattle.aa_merge.proofs.command.merge_all.Given as goal

abbrev pub invariant-loop-path : goal.invariant-loop-path
invariant-loop-path g l = AreMerged (g.P.Parts.parts l.parts) (texts (take l.path-index l.paths)) l.merging
