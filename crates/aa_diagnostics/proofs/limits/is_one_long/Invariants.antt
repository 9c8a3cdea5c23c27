use Rattle.std.proofs.Common.{◌≡◌, map, drop}
use Rattle.std.specs.List.{list_any}
use Rattle.aa_diagnostics.specs.Named.{named_data}
use Rattle.aa_diagnostics.specs.Limits.{is_long}
use Rattle.aa_diagnostics.proofs.limits.is_one_long.Given as goal

abbrev pub invariant-loop-profile : goal.invariant-loop-profile
invariant-loop-profile l = list_any is_long (map named_data l.profiles) ≡ list_any is_long (map named_data (drop l.profile-index l.profiles))
