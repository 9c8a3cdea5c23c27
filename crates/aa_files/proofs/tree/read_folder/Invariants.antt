use Rattle.std.proofs.Common.{◌≡◌, take}
use Rattle.aa_files.specs.Texts.{texts, slices}
use Rattle.aa_files.proofs.tree.read_folder.Given as goal

abbrev pub invariant-loop-name : goal.invariant-loop-name
invariant-loop-name l = slices l.slices.items ≡ texts (take l.name-index l.names)
