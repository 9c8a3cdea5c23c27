use Rattle.std.proofs.Common.{◌≡◌, take}
use Rattle.aa_files.specs.Texts.{texts}
use Rattle.aa_merge.proofs.command.copies_of.Given as goal

abbrev pub invariant-loop-path : goal.invariant-loop-path
invariant-loop-path l = texts l.copies.items ≡ texts (take l.path-index l.paths)
