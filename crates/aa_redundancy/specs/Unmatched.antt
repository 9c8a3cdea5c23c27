-- Rules that match nothing that can be asked for.
-- Source: own.
use Rattle.std.specs.Prelude.{◌≡◌, ℕ, ◌<◌, List, [], false, length, Some, slice_get, bit_and}
use Rattle.aa_base.specs.Permissions.{every_bit}
use Rattle.aa_base.specs.Tables.{capability_names, family_names, sock_type_names}
use Rattle.aa_model.specs.declared.rule.FileRule.{FileRule}
use Rattle.aa_model.specs.declared.rule.CapRule.{CapRule}
use Rattle.aa_model.specs.declared.rule.NetRule.{NetRule}
use Rattle.aa_model.specs.declared.rule.ChangeRule.{ChangeRule}
use Rattle.aa_model.specs.declared.policy.Profile.{Profile}
use Rattle.aa_compile.specs.FileRules.{any_sort, some_match}
use Rattle.aa_compile.specs.Holding.{cap_holds, net_holds, change_holds}
use Rattle.aa_regions.specs.Regions.{IsAsked}
use Rattle.aa_regions.specs.Wanted.{IsWanted}
use Rattle.aa_redundancy.specs.declared.fault.UntoldProfile.{UntoldProfile}
use Rattle.aa_redundancy.specs.declared.places.PlaceNumbers.{PlaceNumbers}
use Rattle.aa_redundancy.specs.declared.reasons.Reason.{Reason}
use Rattle.aa_redundancy.specs.Places.{place_of, ProfileAlike, ProfileWithin}
use Rattle.aa_redundancy.specs.Kept.{KeptAlike, KeptWithin, HoldsBut}
use Rattle.aa_redundancy.specs.Reasons.{IsReason}

-- each rule of a profile stands at one of so many places
pub record StandWithin (count : ℕ) (ns : PlaceNumbers) : Type 0 where
  pub files : (n : ℕ) → place_of ns.files n < count
  pub caps : (n : ℕ) → place_of ns.caps n < count
  pub nets : (n : ℕ) → place_of ns.nets n < count
  pub changes : (n : ℕ) → place_of ns.changes n < count

-- the rules of a profile at a place: one on files that has a permission matches no path that can be asked for, none holds a capability or a socket
-- of the tables, and none holds for a name of at most 1,024 bytes without a zero byte
pub record MatchNothing (p : Profile) (ns : PlaceNumbers) (i : ℕ) : Type 0 where
  pub files : (n : ℕ) (r : FileRule) → slice_get p.files n ≡ Some r → place_of ns.files n ≡ i → (bit_and r.perms.0 every_bit ≡ 0 → ⊥)
      → (path : List ℕ) → IsAsked path → some_match any_sort path r.patterns ≡ false
  pub caps : (n : ℕ) (r : CapRule) → slice_get p.caps n ≡ Some r → place_of ns.caps n ≡ i → (c : ℕ) → c < length capability_names
      → cap_holds c r ≡ false
  pub nets : (n : ℕ) (r : NetRule) → slice_get p.nets n ≡ Some r → place_of ns.nets n ≡ i
      → (f s : ℕ) → f < length family_names → s < length sock_type_names → net_holds f s r ≡ false
  pub changes : (n : ℕ) (r : ChangeRule) → slice_get p.changes n ≡ Some r → place_of ns.changes n ≡ i
      → (name : List ℕ) → IsWanted [] 1 1024 name → change_holds name r ≡ false

-- so do, in each profile, those of a place that is redundant beside no other
abbrev pub BesideNoneMatchNothing : Type 0
BesideNoneMatchNothing = (ps : List Profile) (ns : List PlaceNumbers) (us : List UntoldProfile) (count : ℕ) (r : Reason)
    → IsReason (HoldsBut ProfileAlike KeptAlike us ps ns (length ps)) (HoldsBut ProfileWithin KeptWithin us ps ns (length ps)) count r → r.beside.items ≡ []
    → (k : ℕ) (p : Profile) (m : PlaceNumbers) → slice_get ps k ≡ Some p → slice_get ns k ≡ Some m → StandWithin count m
    → MatchNothing p m r.place
