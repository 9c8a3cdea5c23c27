-- Tables of one profile after another.
-- Source: own.
use Rattle.std.specs.Prelude.{◌≡◌, ℕ, ◌<◌, List, [], ◌∷◌, ◌++◌, Contains, Some, None, slice_get}
use Rattle.aa_model.specs.declared.policy.Profile.{Profile}
use Rattle.aa_redundancy.specs.declared.fault.RedundancyFault.{RedundancyFault}
use Rattle.aa_redundancy.specs.declared.fault.UntoldProfile.{UntoldProfile}
use Rattle.aa_redundancy.specs.declared.places.PlaceNumbers.{PlaceNumbers}
use Rattle.aa_redundancy.specs.declared.tables.Table.{Table}
use Rattle.aa_redundancy.specs.declared.redundant.ProfileTables.{ProfileTables}
use Rattle.aa_redundancy.specs.declared.redundant.AllTables.{AllTables}
use Rattle.aa_redundancy.specs.Faults.{Exceeds, fault_by}
use Rattle.aa_redundancy.specs.Covering.{Within}
use Rattle.aa_redundancy.specs.Tables.{Equal, AllDecide}
use Rattle.aa_redundancy.specs.Places.{ProfileAlike, ProfileWithin, OfProfile}
use Rattle.aa_redundancy.specs.Kept.{IsUntold, KeptAlike, KeptWithin, HoldsBut}

-- the tables of a profile, one after another
abbrev pub four : ProfileTables → List Table
four ts = ts.files ∷ ts.caps ∷ ts.nets ∷ ts.changes ∷ []

-- tables are added that decide two things of the rules of a profile
pub record AddsTables (Alike Within' : OfProfile) (p : Profile) (ns : PlaceNumbers) (was now : List Table) : Type 0 where
  pub tables : List Table
  pub are : now ≡ was ++ tables
  pub alike : AllDecide Equal tables (Alike p ns)
  pub within : AllDecide Within tables (Within' p ns)

-- a profile is added by which no rule goes, and that it can't be told for that fault
pub record AddsKept (p : Profile) (ns : PlaceNumbers) (k : ℕ) (fault : RedundancyFault) (was now : AllTables) : Type 0 where
  pub tables : AddsTables KeptAlike KeptWithin p ns was.tables.items now.tables.items
  pub profile : UntoldProfile
  pub number : profile.number ≡ k
  pub why : fault ≡ fault_by profile.why
  pub untold : now.untold.items ≡ was.untold.items ++ profile ∷ []

-- a profile is added: by what its rules say, or as one that can't be told since there is too much of something
pub data AddsProfile (p : Profile) (ns : PlaceNumbers) (k limit : ℕ) (was now : AllTables) : Type 0 where
  Told : AddsTables ProfileAlike ProfileWithin p ns was.tables.items now.tables.items → now.untold.items ≡ was.untold.items → AddsProfile p ns k limit was now
  Kept : AddsTables KeptAlike KeptWithin p ns was.tables.items now.tables.items → (u : UntoldProfile) → u.number ≡ k → Exceeds p limit u.why
      → now.untold.items ≡ was.untold.items ++ u ∷ [] → AddsProfile p ns k limit was now

-- so the one that is there, with its numbers; else none is
pub data AddsProfileIn (ps : List Profile) (ns : List PlaceNumbers) (k limit : ℕ) (was now : AllTables) : Type 0 where
  There : (p : Profile) (m : PlaceNumbers) → slice_get ps k ≡ Some p → slice_get ns k ≡ Some m → AddsProfile p m k limit was now → AddsProfileIn ps ns k limit was now
  NoProfile : slice_get ps k ≡ None → now ≡ was → AddsProfileIn ps ns k limit was now
  NoNumbers : slice_get ns k ≡ None → now ≡ was → AddsProfileIn ps ns k limit was now

-- the tables of the first n profiles, and those of these that can't be told
pub record AreTablesOf (ps : List Profile) (ns : List PlaceNumbers) (limit n : ℕ) (all : AllTables) : Type 0 where
  pub alike : AllDecide Equal all.tables.items (HoldsBut ProfileAlike KeptAlike all.untold.items ps ns n)
  pub within : AllDecide Within all.tables.items (HoldsBut ProfileWithin KeptWithin all.untold.items ps ns n)
  pub untold : (u : UntoldProfile) → Contains all.untold.items u → IsUntold ps limit u
  pub below : (u : UntoldProfile) → Contains all.untold.items u → u.number < n
