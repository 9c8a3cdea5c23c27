use Rattle.std.proofs.Common.{◌≡◌, ◌++◌, take, flat_map}
use Rattle.aa_check.specs.Gcc.{gcc_file}
use Rattle.aa_check.proofs.gcc.push_files.Given as goal

abbrev pub invariant-loop-file : goal.invariant-loop-file
invariant-loop-file l = l.out.items ≡ l.initial.out.items ++ flat_map (gcc_file l.is_quiet) (take l.file-index l.files)
