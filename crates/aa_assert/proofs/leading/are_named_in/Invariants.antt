use Rattle.std.proofs.Common.{◌≡◌, map, take}
use Rattle.aa_claims.specs.Forms.{names_led}
use Rattle.aa_assert.specs.Leading.{is_named_in}
use Rattle.aa_assert.proofs.leading.are_named_in.Given as goal

abbrev pub invariant-loop-profile : goal.invariant-loop-profile
invariant-loop-profile l = l.flags.items ≡ map (is_named_in (names_led l.words)) (take l.profile-index l.profiles)
