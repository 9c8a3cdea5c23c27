use Rattle.std.proofs.Common.{◌≡◌, take, flat_map}
use Rattle.aa_check.specs.Sarif.{results_of}
use Rattle.aa_check.specs.Notified.{found}
use Rattle.aa_check.proofs.sarif.all_faults.Given as goal

abbrev pub invariant-loop-file : goal.invariant-loop-file
invariant-loop-file l = found l.list.items ≡ flat_map results_of (take l.file-index l.files)
