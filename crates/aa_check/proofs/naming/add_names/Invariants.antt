use Rattle.std.proofs.Common.{take}
use Rattle.aa_check.specs.Names.{AddsNames}
use Rattle.aa_check.proofs.naming.add_names.Given as goal

abbrev pub invariant-loop-profile : goal.invariant-loop-profile
invariant-loop-profile l = AddsNames l.initial.first (take l.profile-index l.profiles) l.number l.first
