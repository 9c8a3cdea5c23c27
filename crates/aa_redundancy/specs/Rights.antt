-- What replies look at of what the rules of a profile say.
-- Source: apparmor.d(5), "Qualifiers", "Access Modes"; own.
use Rattle.std.specs.Prelude.{ℕ, List, Bool, false, Option, None, if◌then◌else◌, bit_and}
use Rattle.std.specs.List.{list_any}
use Rattle.aa_model.specs.declared.rule.Exec.{Exec}
use Rattle.aa_model.specs.declared.rule.FileRule.{FileRule}
use Rattle.aa_model.specs.Lawful.{has_exec}
use Rattle.aa_compile.specs.declared.sets.RuleSets.{RuleSets}
use Rattle.aa_compile.specs.Said.{perms_of, granted}
use Rattle.aa_compile.specs.FileRules.{file_verdict, chosen, way_of}
use Rattle.aa_redundancy.specs.declared.rights.Rights.{Rights}

-- what is granted, what is denied, what of it is reported, and what is granted and reported
abbrev pub rights : RuleSets → Rights
rights v = record {
  granted = perms_of (granted v);
  denied = v.deny;
  loud = v.loud;
  reported = perms_of (bit_and v.audited.0 (granted v));
}

-- how a program is executed, and whether it is reported
pub record Lead : Type 0 where
  pub way : Option Exec
  pub audited : Bool

-- it isn't executed
abbrev pub no_lead : Lead
no_lead = record { way = None; audited = false }

-- it isn't where that is denied; else the chosen rules say how
abbrev pub lead_by : Bool → List FileRule → Lead
lead_by denied rules = if denied then no_lead else record { way = way_of rules; audited = list_any (λ r. r.audit) rules }

-- what the rules say of an execution
abbrev pub lead : List FileRule → List ℕ → Bool → Lead
lead rules path owned = lead_by (has_exec (file_verdict rules path owned).deny) (chosen rules path owned)
