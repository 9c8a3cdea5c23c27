use Rattle.std.proofs.Common.{◌≡◌, take, false}
use Rattle.std.specs.List.{list_any}
use Rattle.aa_reach.proofs.beside.is_opened_in.Given as goal
use Rattle.aa_reach.specs.Doubts.{opens}

abbrev pub invariant-loop-file : goal.invariant-loop-file
invariant-loop-file l = list_any (opens l.compiled.profiles l.label) (take l.file-index l.skipped) ≡ false
