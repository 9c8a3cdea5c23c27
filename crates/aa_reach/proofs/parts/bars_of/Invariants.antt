use Rattle.std.proofs.Common.{◌≡◌, map, take}
use Rattle.std.specs.Prelude.{flat_map}
use Rattle.aa_reach.specs.Routes.{barred, barred_but}
use Rattle.aa_reach.proofs.parts.bars_of.Given as goal

abbrev pub invariant-loop-it : goal.invariant-loop-it
invariant-loop-it l = map barred l.bars.items ≡ flat_map (barred_but l.policies l.but) (take l.it-index l.untold)
