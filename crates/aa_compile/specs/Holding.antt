-- Which rules on capabilities, sockets and changes of the profile hold for what is asked.
-- Source: apparmor.d(5), "Capability rules", "Network rules", "change_profile rules".
use Rattle.std.specs.Prelude.{ℕ, List, Bool, true, ◌==◌, ◌&&◌}
use Rattle.std.specs.Option.{option_map_or}
use Rattle.std.specs.Int.{bit_at}
use Rattle.aa_pattern.specs.declared.pattern.Pattern.{Pattern}
use Rattle.aa_pattern.specs.Matching.{is_match}
use Rattle.aa_model.specs.declared.rule.CapRule.{CapRule}
use Rattle.aa_model.specs.declared.rule.NetRule.{NetRule}
use Rattle.aa_model.specs.declared.rule.ChangeRule.{ChangeRule}

-- whether entry n is among the bits
abbrev pub holds : ℕ → ℕ → Bool
holds bits n = bit_at bits n == 1

-- the capability is among those that it names
abbrev pub cap_holds : ℕ → CapRule → Bool
cap_holds cap r = holds r.caps.0 cap

-- so are the family and the kind of the socket
abbrev pub net_holds : ℕ → ℕ → NetRule → Bool
net_holds family kind r = holds r.families family && holds r.kinds kind

-- its pattern matches the name; one without a pattern holds for every name
abbrev pub change_holds : List ℕ → ChangeRule → Bool
change_holds name r = option_map_or (λ (p : Pattern). is_match p.items.items name) r.pattern true
