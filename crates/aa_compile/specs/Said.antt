-- What the rules of a profile say, whatever their sort.
-- Source: apparmor.d(5), "Qualifiers"; CPR, "Rules".
use Rattle.std.specs.Prelude.{ℕ, ◌-◌, List, [], ◌∷◌, Bool, not, ◌&&◌, if◌then◌else◌, bit_and, bit_or}
use Rattle.aa_base.specs.Permissions.{every_bit}
use Rattle.aa_base.specs.declared.perms.Perms.{Perms}
use Rattle.aa_compile.specs.declared.sets.RuleSets.{RuleSets}

-- what a rule that holds says: of which bits, and whether it denies or reports them
pub record Saying : Type 0 where
  pub audit : Bool
  pub deny : Bool
  pub bits : ℕ

-- a set of permissions by its bits
abbrev pub perms_of : ℕ → Perms
perms_of bits = record { 0 = bits }

-- these bits, or none
abbrev pub bits_if : Bool → ℕ → Perms
bits_if test bits = perms_of (if test then bits else 0)

-- a rule allows or denies its bits; under audit, a denial is loud, and what is allowed is reported
abbrev pub said : Saying → RuleSets
said s = record {
  allow = bits_if (not s.deny) s.bits;
  deny = bits_if s.deny s.bits;
  loud = bits_if (s.audit && s.deny) s.bits;
  audited = bits_if (s.audit && not s.deny) s.bits;
}

-- what no rules say
abbrev pub nothing : RuleSets
nothing = record { allow = perms_of 0; deny = perms_of 0; loud = perms_of 0; audited = perms_of 0 }

-- the union, set by set
abbrev pub both : RuleSets → RuleSets → RuleSets
both a b = record {
  allow = perms_of (bit_or a.allow.0 b.allow.0);
  deny = perms_of (bit_or a.deny.0 b.deny.0);
  loud = perms_of (bit_or a.loud.0 b.loud.0);
  audited = perms_of (bit_or a.audited.0 b.audited.0);
}

-- what rules say together, in whatever order they stand
abbrev pub verdict : List Saying → RuleSets
verdict [] = nothing
verdict (s ∷ rest) = both (said s) (verdict rest)

-- the bits of one set that another lacks
abbrev pub minus : ℕ → ℕ → ℕ
minus a b = bit_and a (every_bit - b)

-- allowed and not denied
abbrev pub granted : RuleSets → ℕ
granted v = minus v.allow.0 v.deny.0
