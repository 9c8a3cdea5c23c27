use Rattle.std.proofs.Common.{◌≡◌, ◌≤◌, length, take}
use Rattle.serde_json.specs.Find.{get_member}
use Rattle.aa_jobs.specs.Items.{item_object, key_name}
use Rattle.aa_jobs.proofs.keyed.member.Given as goal

abbrev pub invariant-back : goal.invariant-back
invariant-back l =
    (l.left ≤ length l.members) × (get_member (key_name l.key) (item_object (take l.left l.members)) ≡ get_member (key_name l.key) (item_object l.members))

abbrev pub decreases-back : goal.decreases-back
decreases-back l = l.left
