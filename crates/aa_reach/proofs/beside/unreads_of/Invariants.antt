use Rattle.std.proofs.Common.{◌≡◌, take}
use Rattle.aa_undecided.specs.Holding.{unreads}
use Rattle.aa_reachability.specs.Course.{unreads_of}
use Rattle.aa_reach.proofs.beside.unreads_of.Given as goal

abbrev pub invariant-loop-file : goal.invariant-loop-file
invariant-loop-file l = unreads_of l.unreads.items ≡ unreads (take l.file-index l.skipped)
