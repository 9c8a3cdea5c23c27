use Rattle.std.proofs.Common.{◌≡◌, map, drop}
use Rattle.aa_diagnostics.specs.Named.{named_data}
use Rattle.aa_diagnostics.specs.Earlier.{first_named}
use Rattle.aa_diagnostics.proofs.profiles.first_named.Given as goal

abbrev pub invariant-loop-profile : goal.invariant-loop-profile
invariant-loop-profile l = first_named l.name (map named_data (drop l.profile-index l.names)) ≡ first_named l.name (map named_data l.names)
