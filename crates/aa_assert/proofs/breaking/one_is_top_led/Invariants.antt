use Rattle.std.proofs.Common.{◌≡◌, take, false}
use Rattle.std.specs.List.{list_any}
use Rattle.aa_assert.specs.Breaking.{is_top_led}
use Rattle.aa_assert.proofs.breaking.one_is_top_led.Given as goal

abbrev pub invariant-loop-profile : goal.invariant-loop-profile
invariant-loop-profile l = list_any (is_top_led l.words) (take l.profile-index l.profiles) ≡ false
