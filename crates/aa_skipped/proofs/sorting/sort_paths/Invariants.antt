use Rattle.std.proofs.Common.{take}
use Rattle.aa_files.specs.Texts.{texts}
use Rattle.aa_command.specs.Setting.{setting_of}
use Rattle.aa_skipped.specs.Sorting.{AreSorted}
use Rattle.aa_skipped.proofs.sorting.sort_paths.Given as goal

abbrev pub invariant-loop-path : goal.invariant-loop-path
invariant-loop-path g l =
    AreSorted (setting_of (g.T.Tree.files l.tree) (g.T.Tree.taken l.tree) (g.T.Tree.input l.tree) l.settings) (texts (take l.path-index l.paths)) l.sorted.units.items l.sorted.skipped.items
