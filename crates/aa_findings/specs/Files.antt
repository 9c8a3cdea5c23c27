-- What is found of rules on files: each a predicate over the files that can be asked for, of which rows stand for all.
-- Source: apparmor.d(5), "Access Modes", "Qualifiers"; own.
use Rattle.std.specs.Prelude.{ℕ, List, Bool, true, not, ◌==◌, ◌&&◌, bit_and}
use Rattle.std.specs.List.{list_any}
use Rattle.aa_base.specs.Permissions.{only_exec}
use Rattle.aa_model.specs.declared.rule.FileRule.{FileRule}
use Rattle.aa_compile.specs.Said.{granted}
use Rattle.aa_compile.specs.FileRules.{any_sort, applies_by}
use Rattle.aa_findings.specs.declared.rows.Row.{Row}
use Rattle.aa_findings.specs.Rules.{lets_free}
use Rattle.aa_findings.specs.Sameness.{same, says_alike}

-- the permissions to write and to append
abbrev pub to_write : ℕ
to_write = 6

-- some permission is among both
abbrev pub shares : ℕ → ℕ → Bool
shares a b = not (bit_and a b == 0)

-- the rule applies to the row's file
abbrev pub applies_at : FileRule → Row → Bool
applies_at r row = applies_by any_sort row.path row.owned r

-- the rules let execute the file
abbrev pub is_executed : Row → Bool
is_executed row = shares (granted row.sets) only_exec

-- they do, the rule lets execute it, and that execution may end unconfined
abbrev pub is_unconfined_exec : FileRule → Row → Bool
is_unconfined_exec r row = lets_free r && (is_executed row && applies_at r row)

-- the rules let write it, or append to it, as the rule allows
abbrev pub is_written : FileRule → Row → Bool
is_written r row = shares (granted row.sets) (bit_and r.perms.0 to_write)

-- the rule lets write the file, which may be executed in the same profile
abbrev pub is_written_exec : FileRule → Row → Bool
is_written_exec r row = not r.deny && (is_executed row && (is_written r row && applies_at r row))

-- /** matches the file's path, and the rule doesn't apply to it, whoever owns it
abbrev pub lacks : FileRule → Row → Bool
lacks r row = row.is_below && not (applies_by any_sort row.path true r)

-- the rule allows, and holds for all that /** matches
abbrev pub is_on_all : List Row → FileRule → Bool
is_on_all rows r = not r.deny && not (list_any (lacks r) rows)

-- the rule denies what another allows of the file
abbrev pub overrules : FileRule → Row → Bool
overrules r row = shares r.perms.0 row.sets.allow.0 && applies_at r row

-- the rule denies, in a profile that doesn't complain, and nowhere what another allows
abbrev pub is_idle : Bool → List Row → FileRule → Bool
is_idle complain rows r = not complain && (r.deny && not (list_any (overrules r) rows))

-- one of the rules alone applies to the file
abbrev pub differ_at : FileRule → FileRule → Row → Bool
differ_at q r row = not (same (applies_at q row) (applies_at r row))

-- the rules say the same of the same files
abbrev pub repeats : List Row → FileRule → FileRule → Bool
repeats rows q r = says_alike q r && not (list_any (differ_at q r) rows)
