use Rattle.std.proofs.Common.{◌≡◌, ◌++◌, map, take, flat_map}
use Rattle.aa_against.specs.Parted.{open_data}
use Rattle.aa_against.specs.Texts.{open_text}
use Rattle.aa_against.proofs.printing.push_opens.Given as goal

abbrev pub invariant-loop-one : goal.invariant-loop-one
invariant-loop-one l = l.out.items ≡ l.initial.out.items ++ flat_map (open_text (map (λ log. log.now) l.logs)) (map open_data (take l.one-index l.opens))
