use Rattle.std.proofs.Common.{◌≡◌, ◌++◌, take, flat_map}
use Rattle.aa_ask.specs.Unattached.{match_of}
use Rattle.aa_ask.proofs.unattached.push_matches.Given as goal

abbrev pub invariant-loop-pattern : goal.invariant-loop-pattern
invariant-loop-pattern l = l.matches.items ≡ l.initial.matches.items ++ flat_map (match_of l.path) (take l.pattern-index l.patterns)
