use Rattle.std.proofs.Common.{◌≡◌, take}
use Rattle.aa_undecided.specs.Answers.{placed_all}
use Rattle.aa_undecided.proofs.asking.copies_of.Given as goal

abbrev pub invariant-loop-file : goal.invariant-loop-file
invariant-loop-file l = placed_all l.copies.items ≡ placed_all (take l.file-index l.files)
