use Rattle.std.proofs.Common.{◌≡◌, ◌++◌, take, map}
use Rattle.std.specs.Prelude.{flat_map}
use Rattle.aa_diff.specs.Untold.{untold, untold_file}
use Rattle.aa_diff.proofs.untold.push_files.Given as goal

abbrev pub invariant-loop-file : goal.invariant-loop-file
invariant-loop-file l = map untold l.found.items ≡ map untold l.initial.found.items ++ flat_map (untold_file l.wanted l.side) (take l.file-index l.skipped)
