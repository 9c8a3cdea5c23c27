-- The rules that decide a request, by what each rule of a list says of its object.
-- Source: apparmor.d(5), "Qualifiers"; own.
use Rattle.std.specs.Prelude.{ℕ, ◌+◌, ◌==◌, ◌&&◌, List, [], ◌∷◌, ◌++◌, Bool, true, false, not, Option, Some, None, option_to_list, bit_and, if◌then◌else◌}
use Rattle.aa_base.specs.Permissions.{only_exec, beside_link_and_exec}
use Rattle.aa_compile.specs.Said.{minus, perms_of}
use Rattle.aa_compile.specs.FileRules.{is_nil}
use Rattle.aa_explain.specs.declared.deciders.Decider.{Decider}
use Rattle.aa_explain.specs.declared.deciders.Deciders.{Deciders}
use Rattle.aa_explain.specs.declared.deciders.Listed.{Listed}
use Rattle.aa_explain.specs.declared.deciders.Listed.TheVariants.{Files}
use Rattle.aa_explain.specs.declared.told.Saying.{Saying}

-- what a rule names of these permissions, if it speaks of the object and denies, or allows
abbrev pub part_of : Bool → Saying → ℕ → ℕ
part_of deny s asked = if s.holds && (if deny then s.deny else not s.deny) then bit_and s.perms.0 asked else 0

-- a rule that has a part in the answer decides that part
abbrev pub decider_if : ℕ → ℕ → Option Decider
decider_if n bits = if bits == 0 then None else Some (record { rule = n; perms = perms_of bits })

-- from rule n on, all rules with that verdict that name some of what is asked
unfoldable pub naming_from : Bool → ℕ → ℕ → List Saying → List Decider
naming_from deny asked n [] = []
naming_from deny asked n (s ∷ ss) = option_to_list (decider_if n (part_of deny s asked)) ++ naming_from deny asked (n + 1) ss

-- what no rule with that verdict names of what is asked
unfoldable pub unnamed : Bool → ℕ → List Saying → ℕ
unnamed deny asked [] = asked
unnamed deny asked (s ∷ ss) = unnamed deny (minus asked (part_of deny s asked)) ss

-- from rule n on, each rule that allows some of what no rule before it allows, with what is new
unfoldable pub first_allowing_from : ℕ → ℕ → List Saying → List Decider
first_allowing_from asked n [] = []
first_allowing_from asked n (s ∷ ss) =
    option_to_list (decider_if n (part_of false s asked)) ++ first_allowing_from (minus asked (part_of false s asked)) (n + 1) ss

-- the whole reason of an answer, without where it lies in memory
pub record Reasons : Type 0 where
  pub listed : Listed
  pub denies : List Decider
  pub allows : List Decider
  pub lacking : ℕ

-- the rules that decide, without where their lists lie in memory
abbrev pub reasons : Deciders → Reasons
reasons d = record { listed = d.listed; denies = d.denies.items; allows = d.allows.items; lacking = d.lacking.0 }

-- the rules that deny; of what none denies, the rules that allow, each with what none before it allows; and what none allows
abbrev pub reasons_by : Listed → List Saying → ℕ → Reasons
reasons_by listed ss asked = record {
  listed = listed;
  denies = naming_from true asked 0 ss;
  allows = first_allowing_from (unnamed true asked ss) 0 ss;
  lacking = unnamed false (unnamed true asked ss) ss;
}

-- of an execution the rules that deny it, or else all that choose how it goes
unfoldable pub exec_reasons : List Saying → Reasons
exec_reasons ss = record {
  listed = Files;
  denies = naming_from true only_exec 0 ss;
  allows = if is_nil (naming_from true only_exec 0 ss) then naming_from false only_exec 0 ss else [];
  lacking = if is_nil (naming_from true only_exec 0 ss) then unnamed false only_exec ss else 0;
}

-- what rules grant beside LINK and EXEC
abbrev pub granted_beside : List Saying → ℕ
granted_beside ss = minus (unnamed true beside_link_and_exec ss) (unnamed false (unnamed true beside_link_and_exec ss) ss)
