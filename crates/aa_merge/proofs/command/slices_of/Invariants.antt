use Rattle.std.proofs.Common.{◌≡◌, take}
use Rattle.aa_files.specs.Texts.{texts, slices}
use Rattle.aa_merge.proofs.command.slices_of.Given as goal

abbrev pub invariant-loop-path : goal.invariant-loop-path
invariant-loop-path l = slices l.slices.items ≡ texts (take l.path-index l.paths)
