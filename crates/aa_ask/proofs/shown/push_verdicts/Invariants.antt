use Rattle.std.proofs.Common.{◌≡◌, ◌++◌, map, take, flat_map}
use Rattle.aa_ask.specs.Told.{told}
use Rattle.aa_ask.specs.Shown.{verdict_text}
use Rattle.aa_ask.proofs.shown.push_verdicts.Given as goal

abbrev pub invariant-loop-verdict : goal.invariant-loop-verdict
invariant-loop-verdict l = l.out.items ≡ l.initial.out.items ++ flat_map (verdict_text l.names_askers) (map told (take l.verdict-index l.verdicts))
