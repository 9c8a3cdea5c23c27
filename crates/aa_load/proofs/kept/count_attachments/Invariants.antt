use Rattle.std.proofs.Common.{◌≡◌, take, None}
use Rattle.aa_model.specs.Lawful.{attachment_patterns}
use Rattle.aa_load.proofs.kept.count_attachments.Given as goal

abbrev pub invariant-loop-profile : goal.invariant-loop-profile
invariant-loop-profile l = l.count ≡ attachment_patterns None (take l.profile-index l.profiles)
