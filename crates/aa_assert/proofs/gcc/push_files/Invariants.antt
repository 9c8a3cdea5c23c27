use Rattle.std.proofs.Common.{◌≡◌, ◌++◌, take, flat_map}
use Rattle.aa_undecided.specs.Answers.{placed_all}
use Rattle.aa_assert.specs.Gcc.{gcc_file}
use Rattle.aa_assert.proofs.gcc.push_files.Given as goal

abbrev pub invariant-loop-file : goal.invariant-loop-file
invariant-loop-file l = l.out.items ≡ l.initial.out.items ++ flat_map gcc_file (placed_all (take l.file-index l.files))
