-- What each rule of a profile says of a request's object, and so which rules decide the request.
-- Source: apparmor.d(5), "Qualifiers", "Access Modes", "Capability rules", "Network rules", "change_profile rules"; own.
use Rattle.std.specs.Prelude.{ℕ, List, Bool, ◌&&◌, ◌||◌, map, Option, Some, None, if◌then◌else◌}
use Rattle.std.specs.List.{list_any}
use Rattle.aa_base.specs.Permissions.{only_link}
use Rattle.aa_model.specs.declared.rule.FileRule.{FileRule}
use Rattle.aa_model.specs.declared.rule.CapRule.{CapRule}
use Rattle.aa_model.specs.declared.rule.NetRule.{NetRule}
use Rattle.aa_model.specs.declared.rule.ChangeRule.{ChangeRule}
use Rattle.aa_model.specs.declared.policy.Profile.{Profile}
use Rattle.aa_model.specs.declared.request.Request.{Request}
use Rattle.aa_model.specs.declared.request.Request.TheVariants as asks
use Rattle.aa_compile.specs.Said.{perms_of}
use Rattle.aa_compile.specs.Patterns.{is_literal}
use Rattle.aa_compile.specs.FileRules.{any_sort, applies_by, says_how}
use Rattle.aa_compile.specs.Holding.{cap_holds, net_holds, change_holds}
use Rattle.aa_explain.specs.declared.told.Saying.{Saying}
use Rattle.aa_explain.specs.declared.deciders.Listed.TheVariants as lists
use Rattle.aa_explain.specs.Deciders.{Reasons, reasons_by, exec_reasons, granted_beside}

-- a file rule speaks of a path, and of an object that is owned or not, if it applies
abbrev pub file_saying : List ℕ → Bool → FileRule → Saying
file_saying path owned r = record { holds = applies_by any_sort path owned r; deny = r.deny; perms = r.perms }

-- the rule says how the path is executed, by a literal pattern
abbrev pub says_how_literally : List ℕ → Bool → FileRule → Bool
says_how_literally path owned r = says_how r && applies_by is_literal path owned r

-- it is one of the rules that choose how a program is executed: by literal patterns, or by all
abbrev pub chooses : Bool → List ℕ → Bool → FileRule → Bool
chooses literally path owned r = if literally then says_how_literally path owned r else says_how r && applies_by any_sort path owned r

-- the rule denies, and applies
abbrev pub is_denial : List ℕ → Bool → FileRule → Bool
is_denial path owned r = r.deny && applies_by any_sort path owned r

-- of an execution a rule speaks that chooses or denies
abbrev pub exec_saying : Bool → List ℕ → Bool → FileRule → Saying
exec_saying literally path owned r = record { holds = chooses literally path owned r || is_denial path owned r; deny = r.deny; perms = r.perms }

-- where a rule says how by a literal pattern, such rules alone choose
abbrev pub exec_sayings : List ℕ → Bool → List FileRule → List Saying
exec_sayings path owned rules = map (exec_saying (list_any (says_how_literally path owned) rules) path owned) rules

-- a rule that isn't about files speaks of one bit
abbrev pub bit_saying : Bool → Bool → Saying
bit_saying speaks deny = record { holds = speaks; deny = deny; perms = perms_of 1 }

-- what a rule says of a capability
abbrev pub cap_saying : ℕ → CapRule → Saying
cap_saying cap r = bit_saying (cap_holds cap r) r.deny

-- what a rule says of a socket
abbrev pub net_saying : ℕ → ℕ → NetRule → Saying
net_saying family kind r = bit_saying (net_holds family kind r) r.deny

-- what a rule says of a change to the name
abbrev pub change_saying : List ℕ → ChangeRule → Saying
change_saying name r = bit_saying (change_holds name r) r.deny

-- why a request is answered so by the rules of a profile; of a link, why at the link's path
abbrev pub reasons_of : Profile → Request → Option Reasons
reasons_of p (asks.File f) = Some (reasons_by lists.Files (map (file_saying f.path f.owned) p.files) f.mask.0)
reasons_of p (asks.Link l) = Some (reasons_by lists.Files (map (file_saying l.link l.owned) p.files) only_link)
reasons_of p (asks.Exec e) = Some (exec_reasons (exec_sayings e.path e.owned p.files))
reasons_of p (asks.Cap c) = Some (reasons_by lists.Caps (map (cap_saying c) p.caps) 1)
reasons_of p (asks.Net family kind) = Some (reasons_by lists.Nets (map (net_saying family kind) p.nets) 1)
reasons_of p (asks.Change name) = Some (reasons_by lists.Changes (map (change_saying name) p.changes) 1)
reasons_of p (asks.Reload policy) = None

-- why a link's target grants what the link's path grants beside LINK and EXEC, or doesn't
abbrev pub target_reasons : Profile → Request → Option Reasons
target_reasons p (asks.Link l) = Some (reasons_by lists.Files (map (file_saying l.target l.owned) p.files) (granted_beside (map (file_saying l.link l.owned) p.files)))
target_reasons p _ = None
