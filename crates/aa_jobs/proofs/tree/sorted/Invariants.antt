use Rattle.std.proofs.Common.{◌≡◌, drop}
use Rattle.json.specs.Value.{members_view}
use Rattle.aa_jobs.specs.Trees.{members_data, object_data}
use Rattle.aa_jobs.proofs.Trees.{entries_data}
use Rattle.aa_jobs.proofs.tree.sorted.Given as goal

abbrev pub invariant-loop-member : goal.invariant-loop-member
invariant-loop-member l = members_data (members_view (drop l.member-index l.members)) (entries_data l.sorted.entries) ≡ object_data l.members
