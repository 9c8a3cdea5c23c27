use Rattle.std.proofs.Common.{◌≡◌, map, take}
use Rattle.aa_command.specs.Untold.{untelling}
use Rattle.aa_redundant.specs.Untold.{all_untold}
use Rattle.aa_redundant.proofs.untold.all_untold.Given as goal

abbrev pub invariant-loop-one : goal.invariant-loop-one
invariant-loop-one l = map untelling l.all.items ≡ all_untold l.profiles (take l.one-index l.untold)
