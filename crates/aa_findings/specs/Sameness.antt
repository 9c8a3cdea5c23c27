-- When two rules say the same of the objects that they speak of.
-- Source: own.
use Rattle.std.specs.Prelude.{ℕ, List, Bool, true, false, not, ◌==◌, ◌&&◌, Option, Some, None}
use Rattle.std.specs.Str.{bytes_eq}
use Rattle.aa_model.specs.declared.rule.Exec.{Exec}
use Rattle.aa_model.specs.declared.rule.ExecKind.{ExecKind}
use Rattle.aa_model.specs.declared.rule.ExecKind.TheVariants as kind
use Rattle.aa_model.specs.declared.rule.Fallback.{Fallback}
use Rattle.aa_model.specs.declared.rule.Fallback.TheVariants as fallback
use Rattle.aa_model.specs.declared.rule.FileRule.{FileRule}

-- both are true, or both false
abbrev pub same : Bool → Bool → Bool
same true b = b
same false b = not b

-- each kind has its number
abbrev pub kind_number : ExecKind → ℕ
kind_number kind.Inherit = 0
kind_number kind.Unconfined = 1
kind_number kind.Profile = 2
kind_number kind.Child = 3

-- so has each fallback
abbrev pub fallback_number : Fallback → ℕ
fallback_number fallback.Refuse = 0
fallback_number fallback.Inherit = 1
fallback_number fallback.Unconfined = 2

-- both are the same name, or none
abbrev pub same_name : Option (List ℕ) → Option (List ℕ) → Bool
same_name (Some a) (Some b) = bytes_eq a b
same_name None None = true
same_name (Some a) None = false
same_name None (Some b) = false

-- a program is executed in the same way
abbrev pub same_way : Exec → Exec → Bool
same_way a b =
    kind_number a.kind == kind_number b.kind && (fallback_number a.fallback == fallback_number b.fallback && (same a.scrub b.scrub && same_name a.target b.target))

-- in the same way, or both say nothing of it
abbrev pub same_exec : Option Exec → Option Exec → Bool
same_exec (Some a) (Some b) = same_way a b
same_exec None None = true
same_exec (Some a) None = false
same_exec None (Some b) = false

-- two rules say the same of the objects that they speak of
abbrev pub says_alike : FileRule → FileRule → Bool
says_alike q r = same q.audit r.audit && (same q.deny r.deny && (q.perms.0 == r.perms.0 && same_exec q.exec r.exec))
