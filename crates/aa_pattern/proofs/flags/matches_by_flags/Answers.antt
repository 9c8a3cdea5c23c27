use Rattle.std.proofs.lemmas.Grind.{common_steps}
use Rattle.std.proofs.Common.{◌≡◌, ◌<◌, ℕ, true, false, arith, replicate, get_or, set, length-set, get_or-set_same, get_or-set_other}
use Rattle.std.proofs.lemmas.List.{length-replicate}
use Rattle.aa_pattern.proofs.FlagSteps.{shows_start, shows_whole, within_start, none_at}
use Rattle.aa_pattern.proofs.flags.matches_by_flags.Goals as goal

no_other : (n k : ℕ) → 0 < k → get_or (set (replicate n false) 0 true) k false ≡ false
no_other n k h = grind (arith, common_steps, get_or-set_other, none_at)

pub follow_items-requires : goal.follow_items-requires
follow_items-requires g c = grind (arith, common_steps, length-set, length-replicate, within_start, no_other)

pub whole_as_slice-follow_items : goal.whole_as_slice-follow_items
whole_as_slice-follow_items g c = grind (arith, common_steps)

pub returns : goal.returns
returns g c = grind (arith, common_steps, get_or-set_same, length-replicate, shows_start, shows_whole, no_other)
