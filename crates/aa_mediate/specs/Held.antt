-- What the rules on capabilities, sockets and changes of the profile say, on one bit.
-- Source: apparmor.d(5), "Capability rules", "Network rules", "change_profile rules".
use Rattle.std.specs.Prelude.{ℕ, List, Bool, filter, map}
use Rattle.aa_model.specs.declared.rule.CapRule.{CapRule}
use Rattle.aa_model.specs.declared.rule.NetRule.{NetRule}
use Rattle.aa_model.specs.declared.rule.ChangeRule.{ChangeRule}
use Rattle.aa_compile.specs.declared.sets.RuleSets.{RuleSets}
use Rattle.aa_compile.specs.Said.{Saying, verdict}
use Rattle.aa_compile.specs.Holding.{cap_holds, net_holds, change_holds}

-- a rule that holds speaks of the one bit
abbrev pub saying : Bool → Bool → Saying
saying audit deny = record { audit = audit; deny = deny; bits = 1 }

-- what the rules that hold the capability say
abbrev pub cap_verdict : List CapRule → ℕ → RuleSets
cap_verdict rules cap = verdict (map (λ r. saying r.audit r.deny) (filter (cap_holds cap) rules))

-- what the rules that hold the family and the type say
abbrev pub net_verdict : List NetRule → ℕ → ℕ → RuleSets
net_verdict rules family kind = verdict (map (λ r. saying r.audit r.deny) (filter (net_holds family kind) rules))

-- what the rules that hold for the name say
abbrev pub change_verdict : List ChangeRule → List ℕ → RuleSets
change_verdict rules name = verdict (map (λ r. saying r.audit r.deny) (filter (change_holds name) rules))
