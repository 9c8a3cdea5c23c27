use Rattle.std.proofs.Common.{◌≡◌, ◌≤◌, length, take}
use Rattle.serde_json.specs.Find.{get_member}
use Rattle.aa_jobs.specs.Trees.{object_data}
use Rattle.aa_jobs.proofs.tree.member.Given as goal

abbrev pub invariant-back : goal.invariant-back
invariant-back l = (l.left ≤ length l.members) × (get_member l.key (object_data (take l.left l.members)) ≡ get_member l.key (object_data l.members))

abbrev pub decreases-back : goal.decreases-back
decreases-back l = l.left
