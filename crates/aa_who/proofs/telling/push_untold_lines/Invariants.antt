use Rattle.std.proofs.Common.{◌≡◌, ◌++◌, map, take}
use Rattle.aa_who.specs.Untold.{untold, untold_lines}
use Rattle.aa_who.proofs.telling.push_untold_lines.Given as goal

abbrev pub invariant-loop-one : goal.invariant-loop-one
invariant-loop-one l = l.out.items ≡ l.initial.out.items ++ untold_lines (map untold (take l.one-index l.list))
