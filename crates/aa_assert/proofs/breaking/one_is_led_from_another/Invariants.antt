use Rattle.std.proofs.Common.{◌≡◌, take, false}
use Rattle.std.specs.List.{list_any}
use Rattle.aa_assert.specs.Breaking.{is_led_from_another}
use Rattle.aa_assert.proofs.breaking.one_is_led_from_another.Given as goal

abbrev pub invariant-loop-profile : goal.invariant-loop-profile
invariant-loop-profile l = list_any (is_led_from_another l.words l.profiles) (take l.profile-index l.profiles) ≡ false
