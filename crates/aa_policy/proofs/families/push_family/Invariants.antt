use Rattle.std.proofs.Common.{◌≡◌, ◌++◌, map}
use Rattle.aa_policy.specs.Bodies.{child_profile, child_data, profile_data}
use Rattle.aa_policy.proofs.families.push_family.Given as goal

abbrev pub invariant-loop-child : goal.invariant-loop-child
invariant-loop-child l =
    map profile_data l.row.items ≡ map profile_data l.initial.row.items ++ map (child_profile l.number l.head.title.name.now) (map child_data l.yielded)
