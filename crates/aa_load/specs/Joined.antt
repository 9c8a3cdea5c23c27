-- Policies that become one.
-- Source: own.
use Rattle.std.specs.Prelude.{ℕ, ◌+◌, ◌++◌, map, length, option_map}
use Rattle.aa_model.specs.declared.policy.Profile.{Profile}
use Rattle.aa_model.specs.declared.policy.PassedOver.{PassedOver}
use Rattle.aa_model.specs.declared.policy.Policy.{Policy}
use Rattle.aa_load.specs.Rows.{Rows}

-- what a policy has
abbrev pub rows_of : Policy → Rows
rows_of policy = record { profiles = policy.profiles; passed_over = policy.passed_over }

-- a profile behind so many others: its parent is one of those that moved with it
abbrev pub moved : ℕ → Profile → Profile
moved before p = record p { parent = option_map (λ n. n + before) p.parent }

-- a rule that never decides, of a profile behind so many others
abbrev pub moved_rule : ℕ → PassedOver → PassedOver
moved_rule before r = record r { profile = r.profile + before }

-- the first's profiles and then the second's, and so the rules that never decide
abbrev pub joined : Rows → Rows → Rows
joined first second = record {
  profiles = first.profiles ++ map (moved (length first.profiles)) second.profiles;
  passed_over = first.passed_over ++ map (moved_rule (length first.profiles)) second.passed_over;
}
