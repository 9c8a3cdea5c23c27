use Rattle.std.proofs.Common.{◌≤◌, ◌<◌, ℕ, Option, take}
use Rattle.aa_model.specs.Lawful.{attachment_patterns}
use Rattle.aa_reachability.proofs.extent.attachments_in.Given as goal

abbrev pub invariant-loop-profile : goal.invariant-loop-profile
invariant-loop-profile l = record {
  bounded : l.count ≤ 65536;
  most : (parent : Option ℕ) → l.count < 65536 → attachment_patterns parent (take l.profile-index l.profiles) ≤ l.count;
}
