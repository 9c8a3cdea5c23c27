use Rattle.std.proofs.Common.{[], take}
use Rattle.aa_files.specs.Texts.{texts}
use Rattle.aa_check.specs.Names.{IsFirst}
use Rattle.aa_command.specs.Setting.{setting_of}
use Rattle.aa_check.specs.Checked.{AreFound}
use Rattle.aa_check.proofs.checking.check_files.Given as goal

abbrev pub invariant-loop-path : goal.invariant-loop-path
invariant-loop-path g l = record {
  found : AreFound (setting_of (g.T.Tree.files l.tree) (g.T.Tree.taken l.tree) (g.T.Tree.input l.tree) l.settings) [] (texts (take l.path-index l.paths)) l.files.items;
  first : IsFirst l.first l.files.items;
}
