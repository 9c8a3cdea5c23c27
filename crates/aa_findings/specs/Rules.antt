-- Rules that let a program run unconfined.
-- Source: apparmor.d(5), "Access Modes", "change_profile rules"; own.
use Rattle.std.specs.Prelude.{List, Bool, true, false, not, ◌&&◌, ◌||◌, Option, Some, None, is_some}
use Rattle.std.specs.List.{list_any}
use Rattle.aa_model.specs.declared.rule.Exec.{Exec}
use Rattle.aa_model.specs.declared.rule.ExecKind.{ExecKind}
use Rattle.aa_model.specs.declared.rule.ExecKind.TheVariants as kind
use Rattle.aa_model.specs.declared.rule.Fallback.{Fallback}
use Rattle.aa_model.specs.declared.rule.Fallback.TheVariants as fallback
use Rattle.aa_model.specs.declared.rule.FileRule.{FileRule}
use Rattle.aa_model.specs.declared.rule.ChangeRule.{ChangeRule}

-- to no profile
abbrev pub is_free : ExecKind → Bool
is_free kind.Inherit = false
is_free kind.Unconfined = true
is_free kind.Profile = false
is_free kind.Child = false

-- to no profile, where the one that is looked for isn't found
abbrev pub falls_free : Fallback → Bool
falls_free fallback.Refuse = false
falls_free fallback.Inherit = false
falls_free fallback.Unconfined = true

-- a program that is executed so may end unconfined
abbrev pub ends_unconfined : Exec → Bool
ends_unconfined e = is_free e.kind || falls_free e.fallback

-- one that is executed so by a rule with that verdict
abbrev pub unconfined_by : Bool → Option Exec → Bool
unconfined_by deny None = false
unconfined_by deny (Some e) = not deny && ends_unconfined e

-- what the rule lets execute may end unconfined
abbrev pub lets_free : FileRule → Bool
lets_free r = unconfined_by r.deny r.exec

-- the rule denies each name
abbrev pub denies_all : ChangeRule → Bool
denies_all r = r.deny && not (is_some r.pattern)

-- the rule lets change to each name, and none denies each
abbrev pub is_any_profile : List ChangeRule → ChangeRule → Bool
is_any_profile rules r = not r.deny && (not (is_some r.pattern) && not (list_any denies_all rules))
