use Rattle.std.proofs.Common.{◌≡◌, ◌++◌, map, take, flat_map}
use Rattle.aa_ask.specs.Named.{named, named_by}
use Rattle.aa_ask.proofs.explained.push_each.Given as goal

abbrev pub invariant-loop-decider : goal.invariant-loop-decider
invariant-loop-decider l = map named l.lines.items ≡ map named l.initial.lines.items ++ flat_map (named_by l.unit l.places l.how.listed l.how.is_target l.how.denies) (take l.decider-index l.deciders)
