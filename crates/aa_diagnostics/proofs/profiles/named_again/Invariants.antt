use Rattle.std.proofs.Common.{◌≡◌, [], map, take, drop}
use Rattle.aa_diagnostics.specs.Named.{named_data}
use Rattle.aa_diagnostics.specs.Earlier.{named_again}
use Rattle.aa_diagnostics.proofs.profiles.named_again.Given as goal

abbrev pub invariant-loop-number : goal.invariant-loop-number
invariant-loop-number l = named_again l.at (map named_data (take l.number l.names)) (map named_data (drop l.number l.names)) ≡ named_again l.at [] (map named_data l.names)
