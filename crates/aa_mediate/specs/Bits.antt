-- What a request asks for, and what the rules say of it, bit by bit.
-- Source: apparmor.d(5), "Qualifiers", "change_profile rules"; own.
use Rattle.std.specs.Prelude.{ℕ, List, Bool, if◌then◌else◌, bit_and}
use Rattle.std.specs.List.{list_any}
use Rattle.aa_base.specs.Permissions.{only_exec}
use Rattle.aa_model.specs.declared.rule.FileRule.{FileRule}
use Rattle.aa_compile.specs.declared.sets.RuleSets.{RuleSets}
use Rattle.aa_compile.specs.Said.{perms_of, minus, granted}
use Rattle.aa_compile.specs.FileRules.{file_verdict, chosen}
use Rattle.aa_compile.specs.declared.transition.Transition.{Transition}
use Rattle.aa_compile.specs.declared.transition.Transition.TheVariants.{Denied, To}
use Rattle.aa_model.specs.Requests.{RequestedFile, RequestedExec}
use Rattle.aa_mediate.specs.declared.bits.RequestBits.{RequestBits}

-- of the bits asked for some are missing; those of them that a rule denies are quiet where no audit deny rule does; and those that an audit rule allows are reported
abbrev pub sorted : ℕ → ℕ → RuleSets → RequestBits
sorted asked missing v =
    let denied = bit_and missing v.deny.0 in
    record {
      requested = perms_of asked;
      missing = perms_of missing;
      denied = perms_of denied;
      quiet = perms_of (minus denied v.loud.0);
      audited = perms_of (bit_and asked v.audited.0);
    }

-- missing is what isn't granted
abbrev pub plain_bits : ℕ → RuleSets → RequestBits
plain_bits asked v = sorted asked (minus asked (granted v)) v

-- the bits of a request for a file
abbrev pub file_bits : List FileRule → RequestedFile → RequestBits
file_bits rules r = plain_bits r.mask.0 (file_verdict rules r.path r.owned)

-- EXEC is missing where an execution leads nowhere
abbrev pub exec_missing : Transition → ℕ
exec_missing (To next scrub) = 0
exec_missing _ = only_exec

-- and denied where a rule denies it
abbrev pub exec_denied : Transition → ℕ
exec_denied Denied = only_exec
exec_denied _ = 0

-- it is reported where one of the chosen rules is an audit rule
abbrev pub exec_bits : List FileRule → RequestedExec → Transition → RequestBits
exec_bits rules r t =
    record {
      requested = perms_of only_exec;
      missing = perms_of (exec_missing t);
      denied = perms_of (exec_denied t);
      quiet = perms_of (minus (exec_denied t) (file_verdict rules r.path r.owned).loud.0);
      audited = perms_of (if list_any (λ rule. rule.audit) (chosen rules r.path r.owned) then only_exec else 0);
    }

-- a change: the one bit is missing where the rules don't grant it, and where the name isn't found
abbrev pub change_bits : RuleSets → Bool → RequestBits
change_bits v found =
    sorted 1 (if found then minus 1 (granted v) else 1) v
