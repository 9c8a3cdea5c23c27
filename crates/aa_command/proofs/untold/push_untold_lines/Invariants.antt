use Rattle.std.proofs.Common.{◌≡◌, ◌++◌, map, take}
use Rattle.std.specs.List.{flat_map}
use Rattle.aa_command.specs.Untold.{untelling, untold_line}
use Rattle.aa_command.proofs.untold.push_untold_lines.Given as goal

abbrev pub invariant-loop-untold : goal.invariant-loop-untold
invariant-loop-untold l = l.out.items ≡ l.fn.out.items ++ flat_map untold_line (map untelling (take l.untold-index l.all))
