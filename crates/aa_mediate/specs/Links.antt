-- What a hard link may not add to what its target has.
-- Source: own.
use Rattle.std.specs.Prelude.{ℕ, List, Bool, true, false, not, ◌&&◌, if◌then◌else◌, bit_and, bit_or}
use Rattle.std.specs.Option.{option_eq}
use Rattle.std.specs.Str.{bytes_eq}
use Rattle.aa_base.specs.Permissions.{only_link, only_exec, link_and_exec}
use Rattle.aa_model.specs.declared.rule.ExecKind.{ExecKind}
use Rattle.aa_model.specs.declared.rule.ExecKind.TheVariants.{Inherit, Unconfined, Profile as Named, Child}
use Rattle.aa_model.specs.declared.rule.Fallback.{Fallback}
use Rattle.aa_model.specs.declared.rule.Fallback.TheVariants.{Refuse, Inherit as Stay, Unconfined as Leave}
use Rattle.aa_model.specs.declared.rule.Exec.{Exec}
use Rattle.aa_model.specs.declared.rule.FileRule.{FileRule}
use Rattle.aa_model.specs.Lawful.{has_exec}
use Rattle.aa_compile.specs.declared.sets.RuleSets.{RuleSets}
use Rattle.aa_compile.specs.Said.{perms_of, minus, granted}
use Rattle.aa_compile.specs.FileRules.{file_verdict, chosen, way_of}
use Rattle.aa_model.specs.Requests.{RequestedLink}
use Rattle.aa_mediate.specs.declared.bits.RequestBits.{RequestBits}

-- both are of one kind
abbrev pub same_kind : ExecKind → ExecKind → Bool
same_kind Inherit Inherit = true
same_kind Unconfined Unconfined = true
same_kind Named Named = true
same_kind Child Child = true
same_kind _ _ = false

-- both have one fallback
abbrev pub same_fallback : Fallback → Fallback → Bool
same_fallback Refuse Refuse = true
same_fallback Stay Stay = true
same_fallback Leave Leave = true
same_fallback _ _ = false

-- both scrub or neither
abbrev pub same_scrub : Bool → Bool → Bool
same_scrub true b = b
same_scrub false b = not b

-- one kind, scrub, fallback and target
-- (a test, since what a link lacks is a set that depends on it; `same_decides` proves that it is true exactly of equal ones)
abbrev pub same_exec : Exec → Exec → Bool
same_exec a b = same_kind a.kind b.kind && same_scrub a.scrub b.scrub && same_fallback a.fallback b.fallback && option_eq bytes_eq a.target b.target

-- LINK where the link's rules don't grant it; what is granted at the link and not at the target, but for LINK and EXEC; and EXEC where it is granted at the link, and not at the target or in another way
abbrev pub link_missing : RuleSets → RuleSets → Bool → ℕ
link_missing link target same =
    bit_or (bit_or (minus only_link (granted link)) (minus (minus (granted link) (granted target)) link_and_exec))
    (if has_exec (perms_of (granted link)) && not (has_exec (perms_of (granted target)) && same) then only_exec else 0)

-- of a denial and of a report, the rules at the link decide
abbrev pub link_bits_of : RuleSets → RuleSets → Bool → RequestBits
link_bits_of link target same =
    let denied = bit_and only_link link.deny.0 in
    record {
      requested = perms_of only_link;
      missing = perms_of (link_missing link target same);
      denied = perms_of denied;
      quiet = perms_of (minus denied link.loud.0);
      audited = perms_of (bit_and only_link link.audited.0);
    }

-- the bits of a request for a link
abbrev pub link_bits : List FileRule → RequestedLink → RequestBits
link_bits rules r =
    link_bits_of (file_verdict rules r.link r.owned) (file_verdict rules r.target r.owned)
    (option_eq same_exec (way_of (chosen rules r.link r.owned)) (way_of (chosen rules r.target r.owned)))
