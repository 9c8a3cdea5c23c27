use Rattle.std.proofs.Common.{◌≡◌, map, take}
use Rattle.std.specs.List.{flat_map}
use Rattle.aa_redundant.specs.Told.{telling, rule_of}
use Rattle.aa_redundant.proofs.told.rules_at.Given as goal

abbrev pub invariant-loop-place : goal.invariant-loop-place
invariant-loop-place l = map telling l.rules.items ≡ flat_map (rule_of l.units) (take l.place-index l.places)
