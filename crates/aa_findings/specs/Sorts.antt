-- What is found of rules on capabilities and on sockets.
-- Source: apparmor.d(5), "Capability rules", "Network rules", "Qualifiers"; own.
use Rattle.std.specs.Prelude.{List, Bool, not, ◌==◌, ◌&&◌, bit_and}
use Rattle.std.specs.List.{list_any}
use Rattle.aa_model.specs.declared.rule.CapRule.{CapRule}
use Rattle.aa_model.specs.declared.rule.NetRule.{NetRule}
use Rattle.aa_findings.specs.Sameness.{same}

-- both say the same of the same capabilities
abbrev pub same_caps : CapRule → CapRule → Bool
same_caps q r = same q.audit r.audit && (same q.deny r.deny && q.caps.0 == r.caps.0)

-- the other rule allows a capability that the rule names
abbrev pub allows_cap : CapRule → CapRule → Bool
allows_cap r other = not other.deny && not (bit_and r.caps.0 other.caps.0 == 0)

-- the rule denies, in a profile that doesn't complain, and nothing that another allows
abbrev pub is_idle_cap : Bool → List CapRule → CapRule → Bool
is_idle_cap complain rules r = not complain && (r.deny && not (list_any (allows_cap r) rules))

-- both say the same of the same sockets
abbrev pub same_nets : NetRule → NetRule → Bool
same_nets q r = same q.audit r.audit && (same q.deny r.deny && (q.families == r.families && q.kinds == r.kinds))

-- the other rule allows a socket that the rule names
abbrev pub allows_net : NetRule → NetRule → Bool
allows_net r other = not other.deny && (not (bit_and r.families other.families == 0) && not (bit_and r.kinds other.kinds == 0))

-- the rule denies, in a profile that doesn't complain, and nothing that another allows
abbrev pub is_idle_net : Bool → List NetRule → NetRule → Bool
is_idle_net complain rules r = not complain && (r.deny && not (list_any (allows_net r) rules))
