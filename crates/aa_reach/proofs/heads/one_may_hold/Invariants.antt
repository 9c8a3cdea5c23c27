use Rattle.std.proofs.Common.{◌≡◌, take, false}
use Rattle.std.specs.List.{list_any}
use Rattle.aa_reach.specs.Heads.{may_hold}
use Rattle.aa_reach.proofs.heads.one_may_hold.Given as goal

abbrev pub invariant-loop-file : goal.invariant-loop-file
invariant-loop-file l = list_any (may_hold l.text) (take l.file-index l.skipped) ≡ false
