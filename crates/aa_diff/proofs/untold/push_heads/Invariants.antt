use Rattle.std.proofs.Common.{◌≡◌, ◌++◌, take, map}
use Rattle.std.specs.Prelude.{flat_map}
use Rattle.aa_diff.specs.Untold.{untold, untold_head}
use Rattle.aa_diff.proofs.untold.push_heads.Given as goal

abbrev pub invariant-loop-head : goal.invariant-loop-head
invariant-loop-head l = map untold l.found.items ≡ map untold l.initial.found.items ++ flat_map (untold_head l.wanted l.side l.file) (take l.head-index l.heads)
