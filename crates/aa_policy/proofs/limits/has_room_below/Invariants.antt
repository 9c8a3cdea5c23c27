use Rattle.std.proofs.Common.{◌≡◌, ◌+◌, take}
use Rattle.std.specs.List.{sum_by}
use Rattle.aa_model.specs.Lawful.{attachments_with}
use Rattle.aa_policy.proofs.limits.has_room_below.Given as goal

abbrev pub invariant-loop-profile : goal.invariant-loop-profile
invariant-loop-profile l = record { counted : sum_by (attachments_with l.parent) (take l.profile-index l.profiles) + l.more + l.room ≡ 65535 }
